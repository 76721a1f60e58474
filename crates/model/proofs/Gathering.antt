-- Which names are gathered from the spots of a walk.
use Rattle.std.proofs.Common.{◌≡◌, ℕ, Bool, true, false, cond, ◌||◌, ◌⊎◌, List, [], ◌∷◌, ◌++◌, map, sym, refl, ap, ◌∙◌, inl, inr}
use Rattle.std.proofs.lemmas.Bool.{or_cases, or_left, or_right, false≢true}
use Rattle.std.proofs.lemmas.List.Folds.{list_any-append}
use Rattle.sets.proofs.Ranking.{same_self as itself}
use Rattle.model.specs.declared.names.Name.{Name}
use Rattle.model.specs.ByFields.{name_order}
use Rattle.model.specs.Names.{same_name, holds}
use Rattle.model.specs.Nets.{Kept, Spot, node, below, accepting}
use Rattle.model.specs.Model.{own, gathered}
use Rattle.model.specs.Decoding.{Among, here, later}

pub same_true : (x y : Name) → same_name x y ≡ true → x ≡ y
same_true = name_order.whole

pub same_self : (x : Name) → same_name x x ≡ true
same_self = itself name_order

module _ (x : Name) (xs ys : List Name) where
  holds_both : holds (xs ++ ys) x ≡ (holds xs x || holds ys x)
  holds_both = list_any-append (λ y. same_name y x) xs ys

  pub holds_either : holds (xs ++ ys) x ≡ true → (holds xs x ≡ true) ⊎ (holds ys x ≡ true)
  holds_either h = or_cases (holds xs x) (holds ys x) (sym holds_both ∙ h)

  pub holds_left : holds xs x ≡ true → holds (xs ++ ys) x ≡ true
  holds_left h = holds_both ∙ or_left (holds xs x) (holds ys x) h

  pub holds_right : holds ys x ≡ true → holds (xs ++ ys) x ≡ true
  holds_right h = holds_both ∙ or_right (holds xs x) (holds ys x) h

-- the renamed list has the renamed names
pub holds-map : (f : Name → Name) (xs : List Name) (y : Name) → holds xs y ≡ true → holds (map f xs) (f y) ≡ true
holds-map f [] y h = absurd (false≢true h)
holds-map f (x ∷ xs) y h =
    elim (or_cases (same_name x y) (holds xs y) h) [
      | inl e ↦ or_left (same_name (f x) (f y)) (holds (map f xs) (f y)) (ap (λ z. same_name (f x) (f z)) (sym (same_true x y e)) ∙ same_self (f x))
      | inr e ↦ or_right (same_name (f x) (f y)) (holds (map f xs) (f y)) (holds-map f xs y e)
    ]

pub map-holds : (f : Name → Name) (xs : List Name) (y : Name) → holds (map f xs) y ≡ true → (x : Name) × (holds xs x ≡ true) × (y ≡ f x)
map-holds f [] y h = absurd (false≢true h)
map-holds f (x ∷ xs) y h =
    elim (or_cases (same_name (f x) y) (holds (map f xs) y) h) [
      | inl e ↦ (x, or_left (same_name x x) (holds xs x) (same_self x), sym (same_true (f x) y e))
      | inr e ↦ let p = map-holds f xs y e in (p.0, or_right (same_name x p.0) (holds xs p.0) p.1, p.2)
    ]

-- where a gathered name comes from
pub data Found (k : Kept) (under : ℕ → List Name) (met : List Spot) (x : Name) : Type 0 where
  at_node : (n a : ℕ) → Among (node n a) met → accepting k.accepts n a ≡ true → x ≡ own k n a → Found k under met x
  from_below : (a : ℕ) → Among (below a) met → holds (under a) x ≡ true → Found k under met x

module _ (k : Kept) (under : ℕ → List Name) (x : Name) where
  found_later : (s : Spot) (met : List Spot) → Found k under met x → Found k under (s ∷ met) x
  found_later s met (at_node n a i e f) = at_node n a (later i) e f
  found_later s met (from_below a i h) = from_below a (later i) h

  pub gathered-found : (met : List Spot) → holds (gathered k under met) x ≡ true → Found k under met x
  gathered-found [] h = absurd (false≢true h)
  gathered-found (node n a ∷ met) h = go (accepting k.accepts n a) refl (gathered-found met) h
    where
      go : (b : Bool) → accepting k.accepts n a ≡ b → (holds (gathered k under met) x ≡ true → Found k under met x)
          → holds (cond b (own k n a ∷ gathered k under met) (gathered k under met)) x ≡ true → Found k under (node n a ∷ met) x
      go true e ih h =
          elim (or_cases (same_name (own k n a) x) (holds (gathered k under met) x) h) [
            | inl f ↦ at_node n a here e (sym (same_true (own k n a) x f))
            | inr f ↦ found_later (node n a) met (ih f)
          ]
      go false e ih h = found_later (node n a) met (ih h)
  gathered-found (below a ∷ met) h =
      elim (holds_either x (under a) (gathered k under met) h) [
        | inl f ↦ from_below a here f
        | inr f ↦ found_later (below a) met (gathered-found met f)
      ]

  gathered_later : (s : Spot) (met : List Spot) → holds (gathered k under met) x ≡ true → holds (gathered k under (s ∷ met)) x ≡ true
  gathered_later (node n a) met h = go (accepting k.accepts n a)
    where
      go : (b : Bool) → holds (cond b (own k n a ∷ gathered k under met) (gathered k under met)) x ≡ true
      go true = or_right (same_name (own k n a) x) (holds (gathered k under met) x) h
      go false = h
  gathered_later (below a) met h = holds_right x (under a) (gathered k under met) h

  pub gathers_below : (a : ℕ) → holds (under a) x ≡ true → {met : List Spot} → Among (below a) met → holds (gathered k under met) x ≡ true
  gathers_below a h (here {rest}) = holds_left x (under a) (gathered k under rest) h
  gathers_below a h (later {y = s} {rest} i) = gathered_later s rest (gathers_below a h i)

  pub gathers_node : (n a : ℕ) → accepting k.accepts n a ≡ true → x ≡ own k n a → {met : List Spot} → Among (node n a) met → holds (gathered k under met) x ≡ true
  gathers_node n a e f (here {rest}) =
      ap (λ b. holds (cond b (own k n a ∷ gathered k under rest) (gathered k under rest)) x) e
      ∙ or_left (same_name (own k n a) x) (holds (gathered k under rest) x) (ap (λ z. same_name (own k n a) z) f ∙ same_self (own k n a))
  gathers_node n a e f (later {y = s} {rest} i) = gathered_later s rest (gathers_node n a e f i)
