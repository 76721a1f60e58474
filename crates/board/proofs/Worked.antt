-- The worked cases: a lemma for each kind of case. Looks and plain questions compute; the question about walks is computed by jumps.
use Rattle.std.proofs.Common.{◌≡◌, ℕ, ◌<◌, ◌≤◌, Bool, true, false, cond, leb, List, [], ◌∷◌, ◌++◌, length, drop, replicate, Ok, Err, Result, refl, ap, ◌∙◌, arith}
use mathlib.Core.Option.{Option, none, some}
use Rattle.std.proofs.lemmas.Bool.{le-leb, lt-leb, cond-true, cond-false}
use Rattle.model.specs.declared.faults.Fault.{Fault}
use Rattle.model.specs.declared.names.Name.{Name}
use Rattle.model.specs.Nets.{Kept, Spot, node}
use Rattle.model.specs.Walks.{trace, Bounded}
use Rattle.model.specs.Model.{net, lists}
use Rattle.model.specs.Faults.{Refusal, plain, at_name, refusal}
use Rattle.model.specs.Edits.{NetEdit, on_net, End, granted, refused, edited, asked, asks_walks, net_questions, net_after, then, settled, walks_bounded}
use Rattle.model.specs.Looks.{LookAnswer, filled, zeroed}
use Rattle.model.proofs.Bounds.{asked-walked, walked-asked, bound_walked, walked_bound}
use Rattle.model.proofs.Walking.{sound}
use Rattle.board.specs.Jumping.{jumping_nodes}
use Rattle.board.specs.Board.{named, bank, Fed, finished, answered, Refuses, Counted, Looks, LooksShort, Meets}
use Rattle.board.proofs.Jumps.{first_exact}

-- a look that finds a list
pub looks : {k : Kept} {a : ℕ} {names : List Name} → lists (net k bank) a ≡ names → Looks k a names
looks {k} {a} {names} e = record {
  finds = e;
  counts = λ size r h l. counted size h r l;
  fills = λ slots h. ap (λ l. filled l slots) e ∙ cond-true (leb (length names) (length slots)) (names ++ drop (length names) slots) (zeroed slots) (le-leb (length names) (length slots) h);
}
  where
    counted : (size : ℕ) → length names ≤ size → (r : Result (record { 0 : ℕ; 1 : ℕ }) Fault) → LookAnswer (lists (net k bank)) a size r → Counted (length names) r
    counted size h (Ok g) l = l.0 ∙ ap length e
    counted size h (Err f) l = let s = l.1 in let q : length (lists (net k bank) a) ≡ length names = ap length e in omega arith

pub looks_short : {k : Kept} {a size : ℕ} → size < length (lists (net k bank) a) → LooksShort k a size
looks_short {k} {a} {size} h = record {
  refuses = refuses;
  wipes = λ slots e.
      cond-false (leb (length list) (length slots)) (list ++ drop (length list) slots) (zeroed slots) (lt-leb (length list) (length slots) (omega arith))
      ∙ ap (λ n. replicate n (named 0 0)) e;
}
  where
    list : List Name
    list = lists (net k bank) a

    refuses : (r : Result (record { 0 : ℕ; 1 : ℕ }) Fault) → LookAnswer (lists (net k bank)) a size r → refusal r ≡ some (plain 9)
    refuses (Ok g) l = let s = l.0 in let t = l.1 in absurd (omega arith)
    refuses (Err f) l = ap some l.0

-- the search by jumps comes to an end, and finds this
abbrev pub Jumped : Kept → Option (ℕ × ℕ) → Type 0
Jumped k found = jumping_nodes k 100 32 ≡ some found

abbrev told_of : Option (ℕ × ℕ) → Option Refusal
told_of o = elim o [ none ↦ none | some x ↦ some (at_name 8 x.0 x.1) ]

module _ (k : Kept) where
  asked_of : (found : Option (ℕ × ℕ)) → Jumped k found → walks_bounded k ≡ told_of found
  asked_of found j = ap told_of (first_exact k 100 32 found j)

  bound : Jumped k none → Bounded k
  bound j = walked_bound k (asked-walked k (asked_of none j))

-- an edit whose questions before the one about walks are answered with yes
module _ (k : Kept) (e : NetEdit) (q : asked (net_questions k e) ≡ none) where
  settles : (o : Option Refusal) → cond (asks_walks e) (walks_bounded (net_after k e)) none ≡ o → edited (net k bank) (on_net e) ≡ settled o (net (net_after k e) bank) (net k bank)
  settles o w =
      ap (λ p. settled (then p (cond (asks_walks e) (walks_bounded (net_after k e)) none)) (net (net_after k e) bank) (net k bank)) q
      ∙ ap (λ p. settled p (net (net_after k e) bank) (net k bank)) w

  grants : walks_bounded (net_after k e) ≡ none → edited (net k bank) (on_net e) ≡ (granted, net (net_after k e) bank)
  grants w = settles none (go (asks_walks e))
    where
      go : (b : Bool) → cond b (walks_bounded (net_after k e)) none ≡ none
      go true = w
      go false = refl

start_bound : {k last : Kept} {es : List NetEdit} {ends : List End} → Fed k es ends last → Bounded k
start_bound (finished b) = b
start_bound (answered b e f) = b

pub end : {k : Kept} → Jumped k none → Fed k [] [] k
end {k} j = finished (bound k j)

-- an edit that is granted, and then others
pub grant : {k last : Kept} {e : NetEdit} {es : List NetEdit} {ends : List End} → Jumped k none → asked (net_questions k e) ≡ none
    → Fed (net_after k e) es ends last → Fed k (e ∷ es) (granted ∷ ends) last
grant {k} {e = e} j q f = answered (bound k j) (grants k e q (walked-asked (net_after k e) (bound_walked (net_after k e) (start_bound f)))) f

-- an edit that is refused before the question about walks is put, and one that is refused by it
pub refuse : {k : Kept} {e : NetEdit} {r : Refusal} → Jumped k none → edited (net k bank) (on_net e) ≡ (refused r, net k bank) → Refuses k e r
refuse {k} j a = answered (bound k j) a (end j)

pub refuse_walk : {k : Kept} {e : NetEdit} {n a : ℕ} → Jumped k none → asked (net_questions k e) ≡ none → asks_walks e ≡ true → Jumped (net_after k e) (some (n, a)) → Refuses k e (at_name 8 n a)
refuse_walk {k} {e} {n} {a} j q y i =
    refuse j
    (settles k e q (some (at_name 8 n a)) (cond-true (asks_walks e) (walks_bounded (net_after k e)) none y ∙ asked_of (net_after k e) (some (n, a)) i))

-- a walk as it is computed
abbrev pub met_of : Option (List Spot) → List Spot
met_of none = []
met_of (some met) = met

pub meets : {k : Kept} {n a count : ℕ} → trace k 64 (node n a ∷ []) ≡ some (met_of (trace k 64 (node n a ∷ []))) → length (met_of (trace k 64 (node n a ∷ []))) ≡ count → Meets k n a count
meets {k} {n} {a} e l = let met = met_of (trace k 64 (node n a ∷ [])) in (met, (sound k 64 (node n a ∷ []) met e).0, l)
