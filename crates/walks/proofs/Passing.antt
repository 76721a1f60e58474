-- The contracts of the walk's calls, put together.
use Rattle.std.proofs.Common.{◌≡◌, ℕ, suc, ◌-◌, ◌<◌, ◌≤◌, min, Bool, true, false, cond, List, [], ◌∷◌, ◌++◌, length, Some, None, Option, sym, refl, ap, ◌∙◌, subst, arith}
use mathlib.Core.Option.{none}
use Rattle.std.proofs.lemmas.List.{append_assoc, append-nil, length-append}
use Rattle.lists.specs.Held.{held}
use Rattle.model.specs.Names.{top}
use Rattle.model.specs.Nets.{Kept, Spot, node, below, accepting, steps}
use Rattle.model.specs.Model.{own}
use Rattle.model.specs.Walks.{trace, onward, joined}
use Rattle.model.proofs.Walking.{trace-++, bind, after as followed}
use Rattle.blocks.specs.declared.destination.Destination.{Destination}
use Rattle.blocks.specs.declared.destination.Destination.TheVariants.{Node, Below}
use Rattle.blocks.specs.Destinations.{spot_of}
use Rattle.walks.specs.declared.notes.Note.{Note}
use Rattle.walks.specs.declared.notes.Note.TheVariants.{Own, Arrival}
use Rattle.walks.specs.declared.notes.Notes.{Notes}
use Rattle.walks.specs.Spans.{reach, spans}
use Rattle.walks.specs.Noted.{noted, Walked}
use Rattle.walks.specs.Steps.{rest}
use Rattle.walks.specs.Going.{Passed, Went}
use Rattle.walks.proofs.Stepping.{rest_0}
use Rattle.walks.proofs.Rising.{spans-++, spans_le, trace_up, noted_up}

module _ (k : Kept) where
  -- what is noted of the first spot
  abbrev pub noted_of : Spot → List Note
  noted_of (node n a) = cond (accepting k.accepts n a) (Own (own k n a) ∷ []) []
  noted_of (below a) = Arrival a ∷ []

  noted-cons : (s : Spot) (met : List Spot) → noted k (s ∷ met) ≡ noted_of s ++ noted k met
  noted-cons (node n a) met = go (accepting k.accepts n a)
    where
      go : (b : Bool) → cond b (Own (own k n a) ∷ noted k met) (noted k met) ≡ cond b (Own (own k n a) ∷ []) [] ++ noted k met
      go true = refl
      go false = refl
  noted-cons (below a) met = refl

  noted-++ : (us vs : List Spot) → noted k (us ++ vs) ≡ noted k us ++ noted k vs
  noted-++ [] vs = refl
  noted-++ (u ∷ us) vs =
      noted-cons u (us ++ vs) ∙ ap (λ l. noted_of u ++ l) (noted-++ us vs) ∙ sym (append_assoc (noted_of u) (noted k us) (noted k vs))
      ∙ ap (λ l. l ++ noted k vs) (sym (noted-cons u us))

  abbrev pub narrow : ℕ → Spot → ℕ
  narrow s (node n a) = min s (reach k n a)
  narrow s (below a) = s

  spans-cons : (far : ℕ) (s : Spot) (met : List Spot) → spans k far (s ∷ met) ≡ spans k (narrow far s) met
  spans-cons far (node n a) met = refl
  spans-cons far (below a) met = refl

  module _ (before after : Notes) where
    -- the first spot, and then its steps and the others
    pub went_first : (x : Spot) (xs ys : List Spot) (left less : ℕ) (mid : Notes) → left ≡ suc less → onward k x ++ xs ≡ ys
        → held mid.items ≡ held before.items ++ noted_of x → mid.span ≡ narrow before.span x
        → (r : Option ℕ) → Went k ys less mid after r → Went k (x ∷ xs) left before after r
    went_first x xs ys left less mid e q f g None h = ap (λ j. trace k j (x ∷ xs)) e ∙ ap (λ l. joined x (trace k less l)) q ∙ ap (joined x) h
    went_first x xs ys left less mid e q f g (Some over) p =
        let c = p.counted in
        record {
          met = x ∷ p.met;
          found = ap (λ j. trace k j (x ∷ xs)) e ∙ ap (λ l. joined x (trace k less l)) q ∙ ap (joined x) p.found;
          counted = omega arith;
          listed = p.listed ∙ ap (λ z. z ++ noted k p.met) f ∙ append_assoc (held before.items) (noted_of x) (noted k p.met)
              ∙ ap (λ z. held before.items ++ z) (sym (noted-cons x p.met));
          spanned = p.spanned ∙ ap (λ z. spans k z p.met) g ∙ sym (spans-cons before.span x p.met);
        }

    -- one list, and then another
    pub went_then : (xs ys : List Spot) (left over : ℕ) (mid : Notes) → Passed k xs left before mid over
        → (r : Option ℕ) → Went k ys over mid after r → Went k (xs ++ ys) left before after r
    went_then xs ys left over mid p None g =
        let c = p.counted in
        let e : left - length p.met ≡ over = omega arith in
        trace-++ k left xs ys ∙ ap (λ o. bind o (λ us. trace k (left - length us) ys)) p.found
        ∙ ap (λ j. followed p.met (trace k j ys)) e ∙ ap (followed p.met) g
    went_then xs ys left over mid p (Some still) q =
        let c = p.counted in
        let c' = q.counted in
        let e : left - length p.met ≡ over = omega arith in
        record {
          met = p.met ++ q.met;
          found = trace-++ k left xs ys ∙ ap (λ o. bind o (λ us. trace k (left - length us) ys)) p.found
              ∙ ap (λ j. followed p.met (trace k j ys)) e ∙ ap (followed p.met) q.found;
          counted = omega (arith, length-append p.met q.met);
          listed = q.listed ∙ ap (λ z. z ++ noted k q.met) p.listed ∙ append_assoc (held before.items) (noted k p.met) (noted k q.met)
              ∙ ap (λ z. held before.items ++ z) (sym (noted-++ p.met q.met));
          spanned = q.spanned ∙ ap (λ z. spans k z q.met) p.spanned ∙ sym (spans-++ k before.span p.met q.met);
        }

    -- an address at a node, and then its steps
    pub went_name : (n a left less : ℕ) (mid : Notes) → left ≡ suc less → held mid.items ≡ held before.items ++ noted_of (node n a) → mid.span ≡ min before.span (reach k n a)
        → (r : Option ℕ) → Went k (rest k n a 0) less mid after r → Went k (node n a ∷ []) left before after r
    went_name n a left less mid e f g r w = went_first (node n a) [] (rest k n a 0) left less mid e (append-nil (steps k n a) ∙ sym (rest_0 k n a)) f g r w

    -- the first step leads below, and then come the others
    pub went_below : (d : Destination) (a left less : ℕ) (xs ys : List Spot) (mid : Notes) → d ≡ Below → xs ≡ spot_of d a ∷ ys → left ≡ suc less
        → held mid.items ≡ held before.items ++ (Arrival a ∷ []) → mid.span ≡ before.span
        → (r : Option ℕ) → Went k ys less mid after r → Went k xs left before after r
    went_below d a left less xs ys mid at is e f g r w =
        subst (λ l. Went k l left before after r) (sym (is ∙ ap (λ z. spot_of z a ∷ ys) at))
        (went_first (below a) ys ys left less mid e refl f g r w)

    -- the first step leads to a node, and then come the others
    to_node : (d : Destination) (n a : ℕ) (xs ys : List Spot) → d ≡ Node n → xs ≡ spot_of d a ∷ ys → xs ≡ (node n a ∷ []) ++ ys
    to_node d n a xs ys at is = is ∙ ap (λ z. spot_of z a ∷ ys) at

    pub went_node : (d : Destination) (n a left over : ℕ) (xs ys : List Spot) (mid : Notes) → d ≡ Node n → xs ≡ spot_of d a ∷ ys → Passed k (node n a ∷ []) left before mid over
        → (r : Option ℕ) → Went k ys over mid after r → Went k xs left before after r
    went_node d n a left over xs ys mid at is p r w =
        subst (λ l. Went k l left before after r) (sym (to_node d n a xs ys at is)) (went_then (node n a ∷ []) ys left over mid p r w)

    pub went_past : (d : Destination) (n a left : ℕ) (xs ys : List Spot) → d ≡ Node n → xs ≡ spot_of d a ∷ ys → trace k left (node n a ∷ []) ≡ none → trace k left xs ≡ none
    went_past d n a left xs ys at is h =
        ap (trace k left) (to_node d n a xs ys at is) ∙ trace-++ k left (node n a ∷ []) ys ∙ ap (λ o. bind o (λ us. trace k (left - length us) ys)) h

-- a push that had room
pub pushed : {X : Type 0} (r : Bool) (before after : List X) (x : X) → true ≡ r → after ≡ cond r (before ++ x ∷ []) before → after ≡ before ++ x ∷ []
pushed r before after x e f = f ∙ ap (λ b. cond b (before ++ x ∷ []) before) (sym e)

-- what a finished walk answers
pub walked : (k : Kept) (n a over : ℕ) (before after : Notes) → n < 32 → a < top → held before.items ≡ [] → before.span ≡ top - 1 - a
    → Passed k (node n a ∷ []) 64 before after over → Walked k n a (held after.items) after.span
walked k n a over before after h l e f p =
    let s : after.span ≡ spans k (top - 1 - a) p.met = p.spanned ∙ ap (λ z. spans k z p.met) f in
    let t = spans_le k (top - 1 - a) p.met in
    record {
      met = p.met;
      known = h;
      found = p.found;
      listed = p.listed ∙ ap (λ z. z ++ noted k p.met) e;
      spanned = s;
      last = omega arith;
      alike = λ d i. trace_up k d n a 64 (top - 1 - a) p.met p.found (subst (λ z. d ≤ z) s i);
      noted_alike = λ d i. noted_up k d (top - 1 - a) p.met (subst (λ z. d ≤ z) s i);
    }
