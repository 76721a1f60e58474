-- Tables of records, gone through from the first record on.
use Rattle.std.proofs.Common.{◌≡◌, ℕ, zero, suc, ◌+◌, ◌-◌, ◌<◌, ◌≤◌, min, Bool, true, false, cond, ◌&&◌, ◌||◌, eqb, ltb, leb, List, [], ◌∷◌, ◌++◌, length, get_or, take, drop, sym, refl, ap, ◌∙◌, subst, inl, inr, arith}
use mathlib.Core.Option.{none, some}
use Rattle.std.proofs.lemmas.Bool.{false≢true, eqb-true, leb-true, le-leb, lt-leb, ltb-true, and_from, and_left, and_right, and_parts, or_cases, cases_lt, cond-true, cond-false}
use Rattle.std.proofs.lemmas.List.{at_drop_all, append-nil, take-append-drop}
use Rattle.std.specs.List.{list_any}
use Rattle.std.specs.Option.{option_eq}
use Rattle.std.specs.Prelude.{Some, None}
use Rattle.model.specs.declared.names.Name.{Name}
use Rattle.model.specs.declared.records.Record.{Record}
use Rattle.model.specs.Names.{top, raised, raise, same_name, holds}
use Rattle.model.specs.Nets.{within}
use Rattle.model.specs.Faults.{at_place}
use Rattle.model.specs.Bottoms.{led, tabled, misfit, sane, all_sane, steady, steady_all}
use Rattle.model.specs.Looks.{filled, Reach}

-- a table with no misfit is sane
pub no_misfit : (i : ℕ) (rs : List Record) → misfit i rs ≡ none → all_sane rs ≡ true
no_misfit i [] e = refl
no_misfit i (r ∷ rs) e = go (leb r.lo r.hi) (ltb (r.base + (r.hi - r.lo)) top) e (no_misfit (suc i) rs)
  where
    go : (u v : Bool) → cond u (cond v (misfit (suc i) rs) (some (at_place 4 i))) (some (at_place 3 i)) ≡ none → (misfit (suc i) rs ≡ none → all_sane rs ≡ true) → ((u && v) && all_sane rs) ≡ true
    go true true e ih = ih e
    go true false e ih = let z : ◌≡◌ {A = ℕ} 0 1 = cc in absurd (omega arith)
    go false v e ih = let z : ◌≡◌ {A = ℕ} 0 1 = cc in absurd (omega arith)

-- checking one record after another
module _ (rs : List Record) (i : ℕ) (inv : misfit i (drop i rs) ≡ misfit 0 rs) where
  pub misfit_done : length rs ≤ i → none ≡ misfit 0 rs
  misfit_done h = sym (at_drop_all (misfit i) rs i h) ∙ inv

-- what a look keeps while it goes through the records: those before i are served
pub record Gathering (a : ℕ) (rs : List Record) (before slots : List Name) (count reach i : ℕ) : Type 0 where
  pub rest-sane : all_sane (drop i rs) ≡ true
  pub size : length slots ≡ length before
  pub inside : count ≤ length slots
  pub total : count + length (tabled (drop i rs) a) ≡ length (tabled rs a)
  pub front : take count slots ++ tabled (drop i rs) a ≡ tabled rs a
  pub kept : drop count slots ≡ drop count before
  pub in_range : reach ≤ top - 1
  pub nearest : min reach (steady_all (drop i rs) a) ≡ steady_all rs a

steady_most : (a : ℕ) (rs : List Record) → steady_all rs a ≤ top - 1
steady_most a [] = omega arith
steady_most a (r ∷ rs) = let h = steady_most a rs in omega arith

pub gathering_start : (a : ℕ) (rs : List Record) (before : List Name) → all_sane rs ≡ true → Gathering a rs before before 0 18446744073709551615 0
gathering_start a rs before s = record {
  rest-sane = s;
  size = refl;
  inside = omega arith;
  total = omega arith;
  front = refl;
  kept = refl;
  in_range = omega arith;
  nearest = let h = steady_most a rs in omega arith;
}

-- up to where the records are steady, each address is led as the first one, raised
steady-within : (r : Record) (a d : ℕ) → a + d ≤ steady r a → within r.lo r.hi (a + d) ≡ within r.lo r.hi a
steady-within r a d h = go (leb r.lo a) (leb a r.hi) refl refl h
  where
    go : (u v : Bool) → leb r.lo a ≡ u → leb a r.hi ≡ v → a + d ≤ cond u (cond v r.hi (top - 1)) (r.lo - 1) → (leb r.lo (a + d) && leb (a + d) r.hi) ≡ (u && v)
    go true true e f h = let p : r.lo ≤ a = leb-true _ _ e in and_from _ _ (le-leb _ _ (omega arith)) (le-leb _ _ h)
    go true false e f h = and_right _ _ (lt-leb (a + d) r.hi (elim (cases_lt r.hi a) [ inl l ↦ omega arith | inr l ↦ absurd (false≢true (sym f ∙ le-leb a r.hi l)) ]))
    go false v e f h = and_left _ _ (lt-leb r.lo (a + d) (elim (cases_lt a r.lo) [ inl l ↦ omega arith | inr l ↦ absurd (false≢true (sym e ∙ le-leb r.lo a l)) ]))

led-raised : (r : Record) (a d : ℕ) → r.lo ≤ a → led r (a + d) ≡ raised d (led r a)
led-raised r a d h =
    let e : r.base + (a + d - r.lo) ≡ r.base + (a - r.lo) + d = omega arith in
    ap {B = Name} (λ b. record { component = r.component; address = b }) e

pub tabled-raised : (rs : List Record) (a d : ℕ) → a + d ≤ steady_all rs a → tabled rs (a + d) ≡ raise d (tabled rs a)
tabled-raised [] a d h = refl
tabled-raised (r ∷ rs) a d h = go (within r.lo r.hi a) refl (steady-within r a d (omega arith)) (tabled-raised rs a d (omega arith))
  where
    go : (b : Bool) → within r.lo r.hi a ≡ b → within r.lo r.hi (a + d) ≡ within r.lo r.hi a → tabled rs (a + d) ≡ raise d (tabled rs a)
        → cond (within r.lo r.hi (a + d)) (led r (a + d) ∷ tabled rs (a + d)) (tabled rs (a + d)) ≡ raise d (cond b (led r a ∷ tabled rs a) (tabled rs a))
    go true e f ih =
        cond-true _ _ _ (f ∙ e)
        ∙ ap (λ x. x ∷ tabled rs (a + d)) (led-raised r a d (leb-true _ _ (and_parts (leb r.lo a) (leb a r.hi) e).0))
        ∙ ap (λ l. raised d (led r a) ∷ l) ih
    go false e f ih = cond-false _ _ _ (f ∙ e) ∙ ih

-- a sane record leads to no address past the last
pub tabled_low : (rs : List Record) (a : ℕ) → all_sane rs ≡ true → (x : Name) → holds (tabled rs a) x ≡ true → x.address < top
tabled_low [] a s x h = absurd (false≢true h)
tabled_low (r ∷ rs) a s x h = go (within r.lo r.hi a) refl (and_parts (sane r) (all_sane rs) s) (λ e. tabled_low rs a e x) h
  where
    here : sane r ≡ true → within r.lo r.hi a ≡ true → same_name (led r a) x ≡ true → x.address < top
    here f e k =
        let p = and_parts (leb r.lo a) (leb a r.hi) e in
        let q = and_parts (leb r.lo r.hi) (ltb (r.base + (r.hi - r.lo)) top) f in
        let l : r.lo ≤ a = leb-true _ _ p.0 in
        let m : a ≤ r.hi = leb-true _ _ p.1 in
        let n : r.base + (r.hi - r.lo) < top = ltb-true _ _ q.1 in
        let o : r.base + (a - r.lo) ≡ x.address = eqb-true _ _ (and_parts (eqb r.component x.component) (eqb (r.base + (a - r.lo)) x.address) k).1 in
        omega arith

    go : (b : Bool) → within r.lo r.hi a ≡ b → (sane r ≡ true) × (all_sane rs ≡ true) → (all_sane rs ≡ true → holds (tabled rs a) x ≡ true → x.address < top) → holds (cond b (led r a ∷ tabled rs a) (tabled rs a)) x ≡ true → x.address < top
    go true e f ih h = elim (or_cases (same_name (led r a) x) (holds (tabled rs a) x) h) [ inl k ↦ here f.0 e k | inr k ↦ ih f.1 k ]
    go false e f ih h = ih f.1 h

steady-least : (a : ℕ) (rs : List Record) → a < top → a ≤ steady_all rs a
steady-least a [] l = omega arith
steady-least a (r ∷ rs) l = go (leb r.lo a) (leb a r.hi) refl refl (steady-least a rs l)
  where
    go : (u v : Bool) → leb r.lo a ≡ u → leb a r.hi ≡ v → a ≤ steady_all rs a → a ≤ min (cond u (cond v r.hi (top - 1)) (r.lo - 1)) (steady_all rs a)
    go true true e f ih = let p : a ≤ r.hi = leb-true _ _ f in omega arith
    go true false e f ih = omega arith
    go false v e f ih = elim (cases_lt a r.lo) [ inl p ↦ omega arith | inr p ↦ absurd (false≢true (sym e ∙ le-leb r.lo a p)) ]

pub table_reach : (rs : List Record) (a : ℕ) → all_sane rs ≡ true → a < top → Reach (tabled rs) a (steady_all rs a)
table_reach rs a s l = record {
  least = steady-least a rs l;
  most = let h = steady_most a rs in omega arith;
  raises = tabled-raised rs a;
  none_past = λ d h x k. tabled_low rs (a + d) s x k;
}

pub gathering_done : (a : ℕ) (rs : List Record) (before slots : List Name) (count reach i : ℕ) → Gathering a rs before slots count reach i → length rs ≤ i
    → (count ≡ length (tabled rs a)) × (count ≤ length before) × (reach ≡ steady_all rs a) × (slots ≡ filled (tabled rs a) before)
gathering_done a rs before slots count reach i g h =
    let z : tabled (drop i rs) a ≡ [] = at_drop_all (λ l. tabled l a) rs i h in
    let y : steady_all (drop i rs) a ≡ top - 1 = at_drop_all (λ l. steady_all l a) rs i h in
    let zl = ap length z in
    let t = g.total in
    let sz = g.size in
    let ins = g.inside in
    let n = g.nearest in
    let f : take count slots ≡ tabled rs a = sym (append-nil (take count slots)) ∙ ap (λ l. take count slots ++ l) (sym z) ∙ g.front in
    let k : count ≡ length (tabled rs a) = omega (arith, t, zl) in
    let m : count ≤ length before = omega arith in
    let r = g.in_range in (
      k,
      m,
      omega (arith, y, n, r),
      sym (take-append-drop count slots) ∙ ap (λ l. l ++ drop count slots) f ∙ ap (λ l. tabled rs a ++ l) g.kept ∙ ap (λ j. tabled rs a ++ drop j before) k
          ∙ sym (cond-true _ _ _ (le-leb _ _ (subst (λ j. j ≤ length before) k m))),
    )

-- a name stands in a table's list where some record leads to it
pub holds_tabled : (a : ℕ) (x : Name) (rs : List Record)
    → holds (tabled rs a) x ≡ list_any (λ r. option_eq same_name (cond (within r.lo r.hi a) (Some (led r a)) None) (Some x)) rs
holds_tabled a x [] = refl
holds_tabled a x (r ∷ rs) = go (within r.lo r.hi a) (holds_tabled a x rs)
  where
    go : (b : Bool) {rest : Bool} → holds (tabled rs a) x ≡ rest → holds (cond b (led r a ∷ tabled rs a) (tabled rs a)) x ≡ (option_eq same_name (cond b (Some (led r a)) None) (Some x) || rest)
    go true h = ap (λ b. same_name (led r a) x || b) h
    go false h = h

-- each record of a sane table is sane
pub sane_at : (rs : List Record) (k : ℕ) (r : Record) → all_sane rs ≡ true → k < length rs → r ≡ get_or rs k r → sane r ≡ true
sane_at [] k r s l e = absurd (omega arith)
sane_at (y ∷ ys) zero r s l e = ap sane e ∙ (and_parts (sane y) (all_sane ys) s).0
sane_at (y ∷ ys) (suc k) r s l e = sane_at ys k r (and_parts (sane y) (all_sane ys) s).1 (omega arith) e
