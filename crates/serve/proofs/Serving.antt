-- One call served, and one call more.
use Rattle.std.proofs.Common.{◌≡◌, ℕ, ◌<◌, Bool, true, false, cond, leb, ◌↔◌, List, [], ◌∷◌, ◌++◌, length, Ok, Err, vec_items, vec_len, Result, Vec, sym, refl, ap, ◌∙◌, subst, append_assoc, arith}
use Rattle.std.proofs.lemmas.List.{with_items_is}
use Rattle.std.proofs.lemmas.Bool.{cond-true, cond-false, le-leb, lt-leb}
use Rattle.std.specs.Vec.{with_items}
use Rattle.std.specs.declared.alloc.Global.{Global}
use Rattle.model.specs.declared.faults.Fault.{Fault}
use Rattle.model.specs.declared.names.Name.{Name}
use Rattle.model.specs.declared.records.Record.{Record}
use Rattle.model.specs.Names.{top, holds}
use Rattle.model.specs.Model.{Model, lists, Sound, AllWalksEnd}
use Rattle.model.specs.Decoding.{Decodes}
use Rattle.model.specs.Faults.{plain, told}
use Rattle.model.specs.Edits.{Edit}
use Rattle.model.specs.Looks.{LookAnswer, zeroed, filled}
use Rattle.space.proofs.Looked.{listed}
use Rattle.model.proofs.Decode.{lists-then, then-lists}
use Rattle.flatten.specs.Runs.{needed, fits}
use Rattle.flatten.specs.Flattening.{FlattenAnswer}
use Rattle.serve.specs.declared.call.Call.{Call}
use Rattle.serve.specs.declared.call.Call.TheVariants.{Look as look, Flatten as flatten}
use Rattle.serve.specs.declared.call.Answer.{Answer}
use Rattle.serve.specs.declared.call.Answer.TheVariants.{Looked as looked_with, Flattened as flattened_with}
use Rattle.serve.specs.Reference.{named, recorded, denied, reference, to_look, to_flatten, asked_of, looked, flattened}
use Rattle.serve.specs.Served.{LookRight, FlattenRight, Right, Served, answered}

-- a look
module _ (m : Model) (a : ℕ) (slots after : List Name) (e : after ≡ filled (lists m a) slots) where
  look_same : (r : Result (record { 0 : ℕ; 1 : ℕ }) Fault) → LookAnswer (lists m) a (length slots) r → looked r after ≡ (reference m (to_look a (length slots))).0
  look_same (Ok g) h =
      ap named (listed (lists m a) slots after g.0 e h.0 h.1)
      ∙ sym (cond-true (leb (length (lists m a)) (length slots)) (named (lists m a)) (denied (plain 9)) (le-leb (length (lists m a)) (length slots) (omega (arith, h.0, h.1))))
  look_same (Err f) h = ap denied h.0 ∙ sym (cond-false (leb (length (lists m a)) (length slots)) (named (lists m a)) (denied (plain 9)) (lt-leb (length (lists m a)) (length slots) h.1))

  look_right : Sound m → (r : Result (record { 0 : ℕ; 1 : ℕ }) Fault) → LookAnswer (lists m) a (length slots) r → LookRight m a r after
  look_right s (Ok g) h =
      let below : a < top = omega (arith, h.2.least, h.2.most) in (
        (λ x. subst (λ (ys : List Name). (holds ys x ≡ true) ↔ Decodes m a x) (sym (listed (lists m a) slots after g.0 e h.0 h.1)) (lists-then m s a below x, then-lists m s a below x)),
        h.2,
      )
  look_right s (Err f) h = tt

-- a flattening
module _ (m : Model) (scratch : ℕ) (table after : List Record) where
  flatten_same : (r : Result ℕ Fault) → FlattenAnswer (lists m) scratch table r after → flattened r ≡ (reference m (to_flatten scratch (length table))).0
  flatten_same (Ok count) h =
      ap recorded h.1
      ∙ sym (cond-true (fits (lists m) scratch top) _ _ h.0
      ∙ cond-true (leb (needed (lists m) top) (length table)) (recorded (needed (lists m) top)) (denied (plain 9)) (le-leb (needed (lists m) top) (length table) (omega (arith, h.1, h.2))))
  flatten_same (Err f) h = go (fits (lists m) scratch top) h.0 h.2
    where
      go : (b : Bool) → told f ≡ plain (cond b 9 10) → (b ≡ true → length table < needed (lists m) top)
          → denied (told f) ≡ cond b (cond (leb (needed (lists m) top) (length table)) (recorded (needed (lists m) top)) (denied (plain 9))) (denied (plain 10))
      go true t l =
          ap denied t ∙ sym (cond-false (leb (needed (lists m) top) (length table)) (recorded (needed (lists m) top)) (denied (plain 9)) (lt-leb (needed (lists m) top) (length table) (l refl)))
      go false t l = ap denied t

  flatten_right : length after ≡ length table → (r : Result ℕ Fault) → FlattenAnswer (lists m) scratch table r after → FlattenRight m r table after
  flatten_right n (Ok count) h = (h.3, h.4, n)
  flatten_right n (Err f) h = h.1

module _ {E : Type 0} (meaning : E → Edit) (m : Model) where
  pub right_look : Sound m → (call : Call E) (a : ℕ) (slots : Vec Name Global) (r : Result (record { 0 : ℕ; 1 : ℕ }) Fault) (s last : List Name)
      → call ≡ look a slots → s ≡ vec_items slots → length s ≡ vec_len slots → length last ≡ length s
      → LookAnswer (lists m) a (length s) r → last ≡ filled (lists m a) s
      → Right meaning m call (looked_with r (with_items slots last)) × (m ≡ (reference m (asked_of meaning call)).1)
  right_look sound call a slots r s last is s-is s_len kept told' after =
      let items : vec_items (with_items slots last) ≡ last = with_items_is slots last (kept ∙ s_len) in
      let same : looked r (vec_items (with_items slots last)) ≡ (reference m (to_look a (vec_len slots))).0 =
      ap (looked r) items ∙ look_same m a s last after r told' ∙ ap (λ n. (reference m (to_look a n)).0) s_len in
      let shows : LookRight m a r (vec_items (with_items slots last)) × (vec_items (with_items slots last) ≡ filled (lists m a) (vec_items slots)) = (
        subst (λ (ys : List Name). LookRight m a r ys) (sym items) (look_right m a s last after sound r told'),
        items ∙ after ∙ ap (filled (lists m a)) s-is,
      ) in
      let whole : Right meaning m (look a slots) (looked_with r (with_items slots last)) = record { same = same; shows = shows } in (
        subst (λ (c : Call E). Right meaning m c (looked_with r (with_items slots last))) (sym is) whole,
        sym (ap (λ c. (reference m (asked_of meaning c)).1) is),
      )

  pub right_flatten : (call : Call E) (scratch : Vec Name Global) (table : Vec Record Global) (r : Result ℕ Fault) (s s' : List Name) (t t' : List Record)
      → call ≡ flatten scratch table
      → s ≡ vec_items scratch → length s ≡ vec_len scratch → length s' ≡ length s
      → t ≡ vec_items table → length t ≡ vec_len table → length t' ≡ length t
      → FlattenAnswer (lists m) (length s) t r t' → s' ≡ zeroed s
      → Right meaning m call (flattened_with r (with_items scratch s') (with_items table t')) × (m ≡ (reference m (asked_of meaning call)).1)
  right_flatten call scratch table r s s' t t' is s-is s_len s-kept t-is t-len t-kept answer wiped =
      let s-items : vec_items (with_items scratch s') ≡ s' = with_items_is scratch s' (s-kept ∙ s_len) in
      let t-items : vec_items (with_items table t') ≡ t' = with_items_is table t' (t-kept ∙ t-len) in
      let same : flattened r ≡ (reference m (to_flatten (vec_len scratch) (vec_len table))).0 =
      flatten_same m (length s) t t' r answer ∙ ap (λ n. (reference m (to_flatten n (length t))).0) s_len ∙ ap (λ n. (reference m (to_flatten (vec_len scratch) n)).0) t-len in
      let plain-right : FlattenRight m r (vec_items table) t' = subst (λ (ys : List Record). FlattenRight m r ys t') t-is (flatten_right m (length s) t t' t-kept r answer) in
      let shows : FlattenRight m r (vec_items table) (vec_items (with_items table t')) × (vec_items (with_items scratch s') ≡ zeroed (vec_items scratch)) =
      (subst (λ (ys : List Record). FlattenRight m r (vec_items table) ys) (sym t-items) plain-right, s-items ∙ wiped ∙ ap zeroed s-is) in
      let whole : Right meaning m (flatten scratch table) (flattened_with r (with_items scratch s') (with_items table t')) = record { same = same; shows = shows } in (
        subst (λ (c : Call E). Right meaning m c (flattened_with r (with_items scratch s') (with_items table t'))) (sym is) whole,
        sym (ap (λ c. (reference m (asked_of meaning c)).1) is),
      )

-- one call more
pub served_more : {E : Type 0} (meaning : E → Edit) (start m m' : Model) (c : Call E) (r : Answer) (all xs cs : List (Call E)) (out out' : List Answer)
    → xs ≡ c ∷ cs → AllWalksEnd m → Right meaning m c r → m' ≡ (reference m (asked_of meaning c)).1 → out' ≡ out ++ r ∷ []
    → ((rs : List Answer) (q : Model) → Served meaning m xs rs q → Served meaning start all (out ++ rs) q)
    → (rs : List Answer) (q : Model) → Served meaning m' cs rs q → Served meaning start all (out' ++ rs) q
served_more {E} meaning start m m' c r all xs cs out out' xs-is ends right m-is out-is k rs q s =
    let here : Served meaning m (c ∷ cs) (r ∷ rs) q = answered ends right (subst (λ (z : Model). Served meaning z cs rs q) m-is s) in
    subst (λ (ys : List Answer). Served meaning start all ys q) (sym (ap (λ ys. ys ++ rs) out-is ∙ append_assoc out (r ∷ []) rs))
    (k (r ∷ rs) q (subst (λ (ys : List (Call E)). Served meaning m ys (r ∷ rs) q) (sym xs-is) here))
