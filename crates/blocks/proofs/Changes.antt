-- One more element, and one less, of a list of which no two are the same.
use Rattle.std.proofs.Common.{◌≡◌, ℕ, ◌<◌, Bool, true, false, cond, not, ◌||◌, eqb, ltb, List, [], ◌∷◌, ◌++◌, map, length, get_or, set, replicate, Result, sym, refl, ap, ◌∙◌, subst, inl, inr, arith}
use mathlib.Core.Option.{none}
use Rattle.std.proofs.lemmas.List.{length-map, map_push, get_or-set_same, get_or-set_other, get_or-replicate, get_or_past, length-replicate}
use Rattle.std.proofs.lemmas.Bool.{and_from, and_parts, or_parts, not-true, cases_eq, cases_lt, eq-eqb, ne_eqb}
use Rattle.sets.specs.Members.{some_of}
use Rattle.model.specs.declared.blocks.AcceptBlock.{AcceptBlock}
use Rattle.model.specs.declared.blocks.MapBlock.{MapBlock}
use Rattle.model.specs.declared.faults.Fault.{Fault}
use Rattle.model.specs.Faults.{Refusal, plain}
use Rattle.model.specs.Edits.{asked, settled, without, same_accept, same_map}
use Rattle.blocks.specs.Apart.{apart}
use Rattle.blocks.specs.Outcomes.{Decided, to_add, to_drop}
use Rattle.blocks.proofs.Asking.{decided_late}

eqb_swap : (a b : ℕ) → eqb a b ≡ eqb b a
eqb_swap a b = elim (cases_eq a b) [ inl e ↦ eq-eqb a b e ∙ sym (eq-eqb b a (sym e)) | inr d ↦ ne_eqb a b d ∙ sym (ne_eqb b a (λ e. d (sym e))) ]

pub swap_accept : (b c : AcceptBlock) → same_accept b c ≡ same_accept c b
swap_accept b c = cc (eqb_swap b.node c.node, eqb_swap b.lo c.lo, eqb_swap b.hi c.hi)

pub swap-map : (b c : MapBlock) → same_map b c ≡ same_map c b
swap-map b c =
    cc (eqb_swap b.node c.node, eqb_swap b.lo c.lo, eqb_swap b.hi c.hi, eqb_swap b.destination c.destination, eqb_swap b.base c.base)

some_push : {Y : Type 0} (p : Y → Bool) (ys : List Y) (y : Y) → some_of p ys ≡ false → p y ≡ false → some_of p (ys ++ y ∷ []) ≡ false
some_push p [] y h e = ap (λ b. b || false) e
some_push p (z ∷ ys) y h e = let q = or_parts (p z) (some_of p ys) h in ap (λ b. b || some_of p (ys ++ y ∷ [])) q.0 ∙ some_push p ys y q.1 e

some-without : {Y : Type 0} (q p : Y → Bool) (ys : List Y) → some_of q ys ≡ false → some_of q (without p ys) ≡ false
some-without q p [] h = refl
some-without q p (y ∷ ys) h = go (p y) (or_parts (q y) (some_of q ys) h) (some-without q p ys)
  where
    go : (b : Bool) → (q y ≡ false) × (some_of q ys ≡ false) → (some_of q ys ≡ false → some_of q (without p ys) ≡ false) → some_of q (cond b ys (y ∷ without p ys)) ≡ false
    go true e ih = e.1
    go false e ih = ap (λ b. b || some_of q (without p ys)) e.0 ∙ ih e.1

module _ {Y : Type 0} (same : Y → Y → Bool) where
  apart_push : ((y z : Y) → same y z ≡ same z y) → (ys : List Y) (y : Y) → apart same ys ≡ true → some_of (same y) ys ≡ false → apart same (ys ++ y ∷ []) ≡ true
  apart_push swap [] y a e = refl
  apart_push swap (z ∷ ys) y a e =
      let h = and_parts (not (some_of (same z) ys)) (apart same ys) a in
      let q = or_parts (same y z) (some_of (same y) ys) e in
      and_from (not (some_of (same z) (ys ++ y ∷ []))) (apart same (ys ++ y ∷ []))
      (ap not (some_push (same z) ys y (not-true (some_of (same z) ys) h.0) (swap z y ∙ q.0)))
      (apart_push swap ys y h.1 q.1)

  apart-without : (p : Y → Bool) (ys : List Y) → apart same ys ≡ true → apart same (without p ys) ≡ true
  apart-without p [] a = refl
  apart-without p (y ∷ ys) a = go (p y) (and_parts (not (some_of (same y) ys)) (apart same ys) a) (apart-without p ys)
    where
      go : (b : Bool) → (not (some_of (same y) ys) ≡ true) × (apart same ys ≡ true) → (apart same ys ≡ true → apart same (without p ys) ≡ true)
          → apart same (cond b ys (y ∷ without p ys)) ≡ true
      go true h ih = h.1
      go false h ih =
          and_from (not (some_of (same y) (without p ys))) (apart same (without p ys)) (ap not (some-without (same y) p ys (not-true (some_of (same y) ys) h.0))) (ih h.1)

-- what is stored, seen as what it holds
module _ {X Y : Type 0} (f : X → Y) where
  some-map : (p : Y → Bool) (xs : List X) → some_of (λ x. p (f x)) xs ≡ some_of p (map f xs)
  some-map p [] = refl
  some-map p (x ∷ xs) = ap (λ b. p (f x) || b) (some-map p xs)

  without-map : (p : Y → Bool) (xs : List X) → map f (without (λ x. p (f x)) xs) ≡ without p (map f xs)
  without-map p [] = refl
  without-map p (x ∷ xs) = go (p (f x)) (without-map p xs)
    where
      go : (b : Bool) → map f (without (λ x. p (f x)) xs) ≡ without p (map f xs) → map f (cond b xs (x ∷ without (λ x. p (f x)) xs)) ≡ cond b (map f xs) (f x ∷ without p (map f xs))
      go true e = refl
      go false e = ap (λ zs. f x ∷ zs) e

  module _ (same : Y → Y → Bool) (x : X) (xs after : List X) (r : Result (Unit {0}) Fault) where
    abbrev like : X → Bool
    like y = same (f x) (f y)

    pub added : {B : Type 0} (g : List Y → B) (b : Y) (qs : List (Bool × Refusal)) (room : ℕ) → asked qs ≡ none → f x ≡ b
        → Decided (asked (to_add like xs room)) (xs ++ x ∷ []) xs after r
        → Decided (asked (qs ++ to_add (same b) (map f xs) room)) (g (map f xs ++ b ∷ [])) (g (map f xs)) (g (map f after)) r
    added g b qs room h e d =
        decided_late (λ zs. g (map f zs)) qs (to_add like xs room) (to_add (same b) (map f xs) room) (xs ++ x ∷ []) xs after (g (map f xs ++ b ∷ [])) r h
        (ap (λ s. asked ((not s, plain 5) ∷ (ltb (length xs) room, plain 7) ∷ [])) (some-map (same (f x)) xs ∙ ap (λ y. some_of (same y) (map f xs)) e)
        ∙ ap (λ n. asked ((not (some_of (same b) (map f xs)), plain 5) ∷ (ltb n room, plain 7) ∷ [])) (sym (length-map xs f)))
        (ap g (map_push f xs x ∙ ap (λ y. map f xs ++ y ∷ []) e)) d

    pub dropped : {B : Type 0} (g : List Y → B) (b : Y) (qs : List (Bool × Refusal)) → asked qs ≡ none → f x ≡ b
        → Decided (asked (to_drop like xs)) (without like xs) xs after r
        → Decided (asked (qs ++ to_drop (same b) (map f xs))) (g (without (same b) (map f xs))) (g (map f xs)) (g (map f after)) r
    dropped g b qs h e d =
        decided_late (λ zs. g (map f zs)) qs (to_drop like xs) (to_drop (same b) (map f xs)) (without like xs) xs after (g (without (same b) (map f xs))) r h
        (ap (λ s. asked ((s, plain 6) ∷ [])) (some-map (same (f x)) xs ∙ ap (λ y. some_of (same y) (map f xs)) e))
        (ap g (without-map (same (f x)) xs ∙ ap (λ y. without (same y) (map f xs)) e)) d

    pub apart_added : ((y z : Y) → same y z ≡ same z y) → (room : ℕ) → Decided (asked (to_add like xs room)) (xs ++ x ∷ []) xs after r
        → apart same (map f xs) ≡ true → apart same (map f after) ≡ true
    apart_added swap room d a = ap (λ zs. apart same (map f zs)) d.1 ∙ go (some_of like xs) (ltb (length xs) room) refl
      where
        go : (s l : Bool) → some_of like xs ≡ s → apart same (map f (settled (asked ((not s, plain 5) ∷ (l, plain 7) ∷ [])) (xs ++ x ∷ []) xs).1) ≡ true
        go true l e = a
        go false false e = a
        go false true e = ap (apart same) (map_push f xs x) ∙ apart_push same swap (map f xs) (f x) a (sym (some-map (same (f x)) xs) ∙ e)

    pub apart_dropped : Decided (asked (to_drop like xs)) (without like xs) xs after r → apart same (map f xs) ≡ true → apart same (map f after) ≡ true
    apart_dropped d a = ap (λ zs. apart same (map f zs)) d.1 ∙ go (some_of like xs)
      where
        go : (s : Bool) → apart same (map f (settled (asked ((s, plain 6) ∷ [])) (without like xs) xs).1) ≡ true
        go true = ap (apart same) (without-map (same (f x)) xs) ∙ apart-without same (same (f x)) (map f xs) a
        go false = a

-- a fact of every element stays where one is set for which it holds
module _ {X : Type 0} (P : X → Type 0) (blank : X) where
  pub all_set : (xs : List X) (i : ℕ) (x : X) → i < length xs → P x → ((k : ℕ) → P (get_or xs k blank)) → (k : ℕ) → P (get_or (set xs i x) k blank)
  all_set xs i x h p all k =
      elim (cases_eq k i) [
        | inl e ↦ subst P (sym (ap (λ j. get_or (set xs i x) j blank) e ∙ get_or-set_same xs i x blank h)) p
        | inr ne ↦ subst P (sym (get_or-set_other xs i k x blank ne)) (all k)
      ]

  pub all_same : (n : ℕ) → P blank → (k : ℕ) → P (get_or (replicate n blank) k blank)
  all_same n p k =
      elim (cases_lt k n) [
        | inl h ↦ subst P (sym (get_or-replicate n k blank blank h)) p
        | inr h ↦ subst P (sym (get_or_past (replicate n blank) k blank (let l = length-replicate n blank in omega arith))) p
      ]
