-- The bound on walks: of the walks themselves, as a net keeps it, and as the question about walks finds it.
use Rattle.std.proofs.Common.{◌≡◌, ℕ, zero, suc, ◌<◌, ◌≤◌, Bool, true, false, cond, not, ◌⊎◌, List, [], ◌∷◌, length, sym, refl, ap, ◌∙◌, subst, inl, inr, arith}
use mathlib.Core.Option.{Option, none, some}
use Rattle.std.proofs.lemmas.Bool.{and_from, and_parts, false≢true, true≢false, cases_lt}
use Rattle.model.specs.Names.{top}
use Rattle.model.specs.Nets.{Kept, Spot, node}
use Rattle.model.specs.Walks.{EndsSoon, TooLong, WalksEnd, FirstTooLong, trace, finite, ends_soon, each_below, least, Bounded, overfull, first_overfull_lem}
use Rattle.model.specs.Faults.{Refusal, at_name}
use Rattle.model.specs.Edits.{walks_bounded}
use Rattle.model.proofs.Walking.{sound, complete}

-- each number below a bound
pub below_at : (p : ℕ → Bool) (n : ℕ) → each_below p n ≡ true → (i : ℕ) → i < n → p i ≡ true
unfolding each_below
below_at p zero e i h = absurd (omega arith)
below_at p (suc n) e i h = go (and_parts (each_below p n) (p n) e) (below_at p n) (cases_lt i n)
  where
    go : (each_below p n ≡ true) × (p n ≡ true) → (each_below p n ≡ true → (i : ℕ) → i < n → p i ≡ true) → (i < n) ⊎ (n ≤ i) → p i ≡ true
    go q ih (inl l) = ih q.0 i l
    go q ih (inr l) = let e : n ≡ i = omega arith in subst (λ j. p j ≡ true) e q.1

pub from_below : (p : ℕ → Bool) (n : ℕ) → ((i : ℕ) → i < n → p i ≡ true) → each_below p n ≡ true
unfolding each_below
from_below p zero h = refl
from_below p (suc n) h = and_from (each_below p n) (p n) (from_below p n (λ i l. h i (omega arith))) (h n (omega arith))

-- the least number below a bound that passes a test
pub record Least (p : ℕ → Bool) (n i : ℕ) : Type 0 where
  pub under : i < n
  pub passes : p i ≡ true
  pub earlier : (j : ℕ) → j < i → p j ≡ false

abbrev pub LeastOf : (ℕ → Bool) → ℕ → Option ℕ → Type 0
LeastOf p n none = (i : ℕ) → i < n → p i ≡ false
LeastOf p n (some i) = Least p n i

pub least_is : (p : ℕ → Bool) (n : ℕ) → LeastOf p n (least p n)
unfolding least
least_is p zero = λ i h. absurd (omega arith)
least_is p (suc n) = go (least p n) (least_is p n)
  where
    here : LeastOf p n none → (b : Bool) → p n ≡ b → LeastOf p (suc n) (cond b (some n) none)
    here h true e = record { under = omega arith; passes = e; earlier = h }
    here h false e = λ i l. elim (cases_lt i n) [ inl c ↦ h i c | inr c ↦ let q : n ≡ i = omega arith in subst (λ j. p j ≡ false) q e ]

    go : (o : Option ℕ) → LeastOf p n o → LeastOf p (suc n) (elim o [ some i ↦ some i | none ↦ cond (p n) (some n) none ])
    go none h = here h (p n) refl
    go (some i) h = let u = h.under in record { under = omega arith; passes = h.passes; earlier = h.earlier }

-- which of two least numbers is it: they are one
one_least : (p : ℕ → Bool) (n i j : ℕ) → Least p n i → Least p n j → i ≡ j
one_least p n i j f g =
    elim (cases_lt i j) [
      | inl c ↦ absurd (false≢true (sym (g.earlier i c) ∙ f.passes))
      | inr c ↦ elim (cases_lt j i) [ inl d ↦ absurd (false≢true (sym (f.earlier j d) ∙ g.passes)) | inr d ↦ omega arith ]
    ]

pub is_least : (p : ℕ → Bool) (n : ℕ) (o : Option ℕ) → LeastOf p n o → least p n ≡ o
is_least p n o h = go (least p n) (least_is p n) o h
  where
    go : (u : Option ℕ) → LeastOf p n u → (o : Option ℕ) → LeastOf p n o → u ≡ o
    go none f none g = refl
    go none f (some j) g = absurd (false≢true (sym (f j g.under) ∙ g.passes))
    go (some i) f none g = absurd (false≢true (sym (g i f.under) ∙ f.passes))
    go (some i) f (some j) g = ap some (one_least p n i j f g)

-- the first overfull name
pub record First (k : Kept) (m n a : ℕ) : Type 0 where
  pub node_under : n < m
  pub at_least : Least (overfull k n) top a
  pub nodes_before : (i b : ℕ) → i < n → b < top → overfull k i b ≡ false

abbrev pub FirstOf : Kept → ℕ → Option (ℕ × ℕ) → Type 0
FirstOf k m none = (n a : ℕ) → n < m → a < top → overfull k n a ≡ false
FirstOf k m (some x) = First k m x.0 x.1

module _ (k : Kept) where
  pub first_is : (m : ℕ) → FirstOf k m (first_overfull_lem k m)
  unfolding first_overfull_lem
  first_is zero = λ n a h l. absurd (omega arith)
  first_is (suc m) = go (first_overfull_lem k m) (first_is m)
    where
      here : FirstOf k m none → (o : Option ℕ) → LeastOf (overfull k m) top o → FirstOf k (suc m) (elim o [ some a ↦ some (m, a) | none ↦ none ])
      here h none f = λ n a c l. elim (cases_lt n m) [ inl d ↦ h n a d l | inr d ↦ let q : m ≡ n = omega arith in subst (λ j. overfull k j a ≡ false) q (f a l) ]
      here h (some a) f = record { node_under = omega arith; at_least = f; nodes_before = h }

      go : (o : Option (ℕ × ℕ)) → FirstOf k m o → FirstOf k (suc m) (elim o [ some x ↦ some x | none ↦ elim (least (overfull k m) top) [ some a ↦ some (m, a) | none ↦ none ] ])
      go none h = here h (least (overfull k m) top) (least_is (overfull k m) top)
      go (some x) h = let u = h.node_under in record { node_under = omega arith; at_least = h.at_least; nodes_before = h.nodes_before }

  one_first : (m : ℕ) (x y : ℕ × ℕ) → First k m x.0 x.1 → First k m y.0 y.1 → x ≡ y
  one_first m (n, a) (i, b) f g =
      elim (cases_lt n i) [
        | inl c ↦ absurd (false≢true (sym (g.nodes_before n a c f.at_least.under) ∙ f.at_least.passes))
        | inr c ↦ elim (cases_lt i n) [
          | inl d ↦ absurd (false≢true (sym (f.nodes_before i b d g.at_least.under) ∙ g.at_least.passes))
          | inr d ↦
              let e : n ≡ i = omega arith in
              let f' : Least (overfull k i) top a = subst (λ j. Least (overfull k j) top a) e f.at_least in
              let q = one_least (overfull k i) top a b f' g.at_least in
              ap {B = ℕ × ℕ} (λ j. (j, a)) e ∙ ap {B = ℕ × ℕ} (λ c. (i, c)) q
        ]
      ]

  pub is_first : (m : ℕ) (o : Option (ℕ × ℕ)) → FirstOf k m o → first_overfull_lem k m ≡ o
  is_first m o h = go (first_overfull_lem k m) (first_is m) o h
    where
      go : (u : Option (ℕ × ℕ)) → FirstOf k m u → (o : Option (ℕ × ℕ)) → FirstOf k m o → u ≡ o
      go none f none g = refl
      go none f (some y) g = absurd (false≢true (sym (f y.0 y.1 g.node_under g.at_least.under) ∙ g.at_least.passes))
      go (some x) f none g = absurd (false≢true (sym (g x.0 x.1 f.node_under f.at_least.under) ∙ f.at_least.passes))
      go (some x) f (some y) g = ap some (one_first m x y f g)

  -- the test of one walk
  pub soon_walks : (n a : ℕ) → ends_soon k n a ≡ true → EndsSoon k n a
  soon_walks n a e = go (trace k 64 (node n a ∷ [])) refl e
    where
      go : (o : Option (List Spot)) → trace k 64 (node n a ∷ []) ≡ o → finite o ≡ true → EndsSoon k n a
      go none f g = absurd (false≢true g)
      go (some met) f g = let q = sound k 64 (node n a ∷ []) met f in (met, q.0, q.1)

  pub walks_soon : (n a : ℕ) → EndsSoon k n a → ends_soon k n a ≡ true
  walks_soon n a p = ap finite (complete k p.1 64 p.2)

  long_overfull : (n a : ℕ) → TooLong k n a → overfull k n a ≡ true
  long_overfull n a l = go (ends_soon k n a) refl
    where
      go : (b : Bool) → ends_soon k n a ≡ b → not b ≡ true
      go true e = let p = soon_walks n a e in let h = p.2 in let i = l p.0 p.1 in absurd (omega arith)
      go false e = refl

  overfull_long : (n a : ℕ) → overfull k n a ≡ true → TooLong k n a
  overfull_long n a e met w = elim (cases_lt 64 (length met)) [ inl l ↦ l | inr l ↦ absurd (true≢false (sym e ∙ ap not (walks_soon n a (met, w, l)))) ]

  not_soon : (n a : ℕ) → overfull k n a ≡ false → EndsSoon k n a
  not_soon n a e = soon_walks n a (go (ends_soon k n a) e)
    where
      go : (b : Bool) → not b ≡ false → b ≡ true
      go true f = refl
      go false f = absurd (true≢false f)

  soon_not : (n a : ℕ) → EndsSoon k n a → overfull k n a ≡ false
  soon_not n a p = ap not (walks_soon n a p)

  pub bound_walked : Bounded k → WalksEnd k
  bound_walked b n a h l = soon_walks n a (below_at (ends_soon k n) top (below_at (λ i. each_below (ends_soon k i) top) 32 b n h) a l)

  pub walked_bound : WalksEnd k → Bounded k
  walked_bound w = from_below (λ i. each_below (ends_soon k i) top) 32 (λ n h. from_below (ends_soon k n) top (λ a l. walks_soon n a (w n a h l)))

  -- the question about walks
  pub asked-walked : walks_bounded k ≡ none → WalksEnd k
  asked-walked e n a h l = go (first_overfull_lem k 32) (first_is 32) e
    where
      go : (o : Option (ℕ × ℕ)) → FirstOf k 32 o → ◌≡◌ {A = Option Refusal} (elim o [ none ↦ none | some x ↦ some (at_name 8 x.0 x.1) ]) none → EndsSoon k n a
      go none f g = not_soon n a (f n a h l)
      go (some x) f g = let z : ◌≡◌ {A = ℕ} 0 1 = cc in absurd (omega arith)

  pub walked-asked : WalksEnd k → walks_bounded k ≡ none
  walked-asked w =
      ap (λ o. elim o [ none ↦ none | some x ↦ some (at_name 8 x.0 x.1) ])
      (is_first 32 none (λ n a h l. soon_not n a (w n a h l)))

  pub asked_first : (n a : ℕ) → walks_bounded k ≡ some (at_name 8 n a) → FirstTooLong k n a
  asked_first n a e = go (first_overfull_lem k 32) (first_is 32) e
    where
      go : (o : Option (ℕ × ℕ)) → FirstOf k 32 o → ◌≡◌ {A = Option Refusal} (elim o [ none ↦ none | some x ↦ some (at_name 8 x.0 x.1) ]) (some (at_name 8 n a)) → FirstTooLong k n a
      go none f g = let z : ◌≡◌ {A = ℕ} 0 1 = cc in absurd (omega arith)
      go (some x) f g =
          let p : x.0 ≡ n = cc in
          let q : x.1 ≡ a = cc in
          let f' : First k 32 n a = subst (λ j. First k 32 n j) q (subst (λ j. First k 32 j x.1) p f) in
          record {
            known = f'.node_under;
            low = f'.at_least.under;
            long = overfull_long n a f'.at_least.passes;
            before = λ i b l c. not_soon i b (elim c [
              | inl d ↦ f'.nodes_before i b d l
              | inr d ↦ subst (λ j. overfull k j b ≡ false) (sym d.0) (f'.at_least.earlier b d.1)
            ]);
          }

  pub first_asked : (n a : ℕ) → FirstTooLong k n a → walks_bounded k ≡ some (at_name 8 n a)
  first_asked n a f =
      ap (λ o. elim o [ none ↦ none | some x ↦ some (at_name 8 x.0 x.1) ])
      (is_first 32 (some (n, a)) (record {
        node_under = f.known;
        at_least = record {
          under = f.low;
          passes = long_overfull n a f.long;
          earlier = λ b h. let l = f.low in soon_not n b (f.before n b (omega arith) (inr (refl, h)));
        };
        nodes_before = λ i b h l. soon_not i b (f.before i b l (inl h));
      }))
