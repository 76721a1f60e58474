-- From what a walk notes to the list at an address, and how far up it goes.
use Rattle.std.proofs.Common.{◌≡◌, ℕ, ◌+◌, ◌<◌, ◌≤◌, Bool, true, false, cond, eqb, ltb, leb, List, [], ◌∷◌, ◌++◌, map, length, Ok, Err, Result, sym, refl, ap, ◌∙◌, subst, inl, inr, arith}
use mathlib.Core.Option.{none, some}
use Rattle.std.specs.List.{AllByRecursion}
use Rattle.std.proofs.lemmas.Bool.{le-leb, lt-leb, eqb-true, ltb-true, ltb-false, and_parts, or_cases, false≢true}
use Rattle.std.proofs.lemmas.List.{map-append}
use Rattle.model.specs.declared.names.Name.{Name}
use Rattle.model.specs.Names.{top, raised, raise, same_name, holds}
use Rattle.model.specs.Nets.{Kept, Spot, node, below, accepting, Formed}
use Rattle.model.specs.Walks.{trace, finite}
use Rattle.model.specs.Decoding.{Among, here, later}
use Rattle.model.proofs.Walking.{sound}
use Rattle.model.proofs.Bounds.{bound_walked, walks_soon}
use Rattle.model.proofs.Meeting.{walk_low, at}
use Rattle.model.specs.Model.{Model, own, gathered, walked, found, lists}
use Rattle.model.specs.declared.faults.Fault.{Fault}
use Rattle.model.specs.Faults.{plain, told}
use Rattle.model.specs.Looks.{LookAnswer, Reach, filled}
use Rattle.walks.specs.declared.notes.Note.{Note}
use Rattle.walks.specs.declared.notes.Note.TheVariants.{Own, Arrival}
use Rattle.walks.specs.Spans.{lifted}
use Rattle.walks.specs.Noted.{noted, note_up, Walked, NotWalked}
use Rattle.nets.specs.Shape.{Inner}
use Rattle.nets.specs.Resolving.{Resolved, resolved_slots}
use Rattle.nets.specs.Gathering.{each, Steady, Gathered}
use Rattle.nets.proofs.Meeting.{holds-append}

gathered-each : (k : Kept) (f : ℕ → List Name) (met : List Spot) → gathered k f met ≡ each f (noted k met)
gathered-each k f [] = refl
gathered-each k f (node n a ∷ met) =
    elim (accepting k.accepts n a) as (λ v. cond v (own k n a ∷ gathered k f met) (gathered k f met) ≡ each f (cond v (Own (own k n a) ∷ noted k met) (noted k met)))
    [ true ↦ ap (λ l. own k n a ∷ l) (gathered-each k f met) | false ↦ gathered-each k f met ]
gathered-each k f (below a ∷ met) = ap (λ l. f a ++ l) (gathered-each k f met)

each-raised : (f : ℕ → List Name) (room d : ℕ) → d ≤ room → (xs : List Note) → AllByRecursion (Steady f room) xs → each f (map (note_up d) xs) ≡ raise d (each f xs)
each-raised f room d h [] s = refl
each-raised f room d h (Own x ∷ xs) s = ap (λ l. raised d x ∷ l) (each-raised f room d h xs s.1)
each-raised f room d h (Arrival a ∷ xs) s =
    ap (λ l. l ++ each f (map (note_up d) xs)) (s.0.raises d (omega arith))
    ∙ ap (λ l. raise d (f a) ++ l) (each-raised f room d h xs s.1)
    ∙ sym (map-append (raised d) (f a) (each f xs))

abbrev LowNote : Note → Type 0
LowNote (Own x) = x.address < top
LowNote (Arrival a) = a < top

each_low : (f : ℕ → List Name) (room d : ℕ) → d ≤ room → (xs : List Note) → AllByRecursion (Steady f room) xs → AllByRecursion LowNote (map (note_up d) xs)
    → (x : Name) → holds (each f (map (note_up d) xs)) x ≡ true → x.address < top
each_low f room d h [] s l x e = let y : ◌≡◌ {A = Bool} false true = e in let z : ◌≡◌ {A = ℕ} 0 1 = cc in absurd (omega arith)
each_low f room d h (Own y ∷ xs) s l x e =
    elim (or_cases (same_name (raised d y) x) (holds (each f (map (note_up d) xs)) x) e) [
      | inl u ↦ subst (λ n. n < top) (eqb-true (y.address + d) x.address (and_parts (eqb y.component x.component) (eqb (y.address + d) x.address) u).1) l.0
      | inr u ↦ each_low f room d h xs s.1 l.1 x u
    ]
each_low f room d h (Arrival a ∷ xs) s l x e =
    elim (or_cases (holds (f (a + d)) x) (holds (each f (map (note_up d) xs)) x) (sym (holds-append x (f (a + d)) (each f (map (note_up d) xs))) ∙ e)) [
      | inl u ↦ s.0.none_past d (omega arith) x u
      | inr u ↦ each_low f room d h xs s.1 l.1 x u
    ]

noted_low : (k : Kept) (met : List Spot) → AllByRecursion (λ s. at s < top) met → AllByRecursion LowNote (noted k met)
noted_low k [] h = tt
noted_low k (node n a ∷ met) h =
    elim (accepting k.accepts n a) as (λ v. AllByRecursion LowNote (cond v (Own (own k n a) ∷ noted k met) (noted k met)))
    [ true ↦ (h.0, noted_low k met h.1) | false ↦ noted_low k met h.1 ]
noted_low k (below a ∷ met) h = (h.0, noted_low k met h.1)

-- a walk from below the top stays below it
all_low : (met : List Spot) → ((s : Spot) → Among s met → at s < top) → AllByRecursion (λ s. at s < top) met
all_low [] h = tt
all_low (s ∷ met) h = (h s here, all_low met (λ t i. h t (later i)))

trace_low : (k : Kept) → Formed k → (n a : ℕ) → a < top → (met : List Spot) → trace k 64 (node n a ∷ []) ≡ some met → AllByRecursion (λ s. at s < top) met
trace_low k f n a l met e = all_low met (walk_low k f n a l (sound k 64 (node n a ∷ []) met e).0)

-- a sound net grants every walk
granted : (t : Inner) (n a : ℕ) → n < 32 → a < top → trace t.keeps 64 (node n a ∷ []) ≡ none → ⊥
granted t n a hn ha e = false≢true (ap finite (sym e) ∙ walks_soon t.keeps n a (bound_walked t.keeps t.bounded_so n a hn ha))

in_range : {A : Type 0} (n : ℕ) (x y : A) → n < 32 → x ≡ cond (leb n 31) x y
in_range n x y h = rw (le-leb n 31 (omega arith)) refl

out_of_range : {A : Type 0} (n : ℕ) (x y : A) → 31 < n → y ≡ cond (leb n 31) x y
out_of_range n x y h = rw (lt-leb n 31 h) refl

-- a walk is refused only where there is no such node
refused_go : (t : Inner) (n a : ℕ) (e : Fault) → a < top → NotWalked t.keeps n a e → (v : Bool) → ltb n 32 ≡ v → 31 < n
refused_go t n a e h w true q = absurd (granted t n a (ltb-true n 32 q) h (w.too_long (ltb-true n 32 q)))
refused_go t n a e h w false q = let z = ltb-false n 32 q in omega arith

refused : (t : Inner) (n a : ℕ) (e : Fault) → a < top → NotWalked t.keeps n a e → 31 < n
refused t n a e h w = refused_go t n a e h w (ltb n 32) refl

module _ (t : Inner) (m : Model) (n a : ℕ) (items : List Note) (span : ℕ) (w : Walked t.keeps n a items span) where
  at_node_is : found t.keeps (lists m) n a ≡ each (lists m) items
  at_node_is = ap (walked t.keeps (lists m)) w.found ∙ gathered-each t.keeps (lists m) w.met ∙ ap (each (lists m)) (sym w.listed)

  at_node_up : (d : ℕ) → d ≤ span → found t.keeps (lists m) n (a + d) ≡ each (lists m) (map (note_up d) items)
  at_node_up d h =
      ap (walked t.keeps (lists m)) (w.alike d h) ∙ gathered-each t.keeps (lists m) (map (lifted d) w.met)
      ∙ ap (each (lists m)) (w.noted_alike d h ∙ ap (map (note_up d)) (sym w.listed))

  low_up : (d : ℕ) → d ≤ span → AllByRecursion LowNote (map (note_up d) items)
  low_up d h =
      let l = w.last in
      subst (AllByRecursion LowNote) (w.noted_alike d h ∙ ap (map (note_up d)) (sym w.listed)) (noted_low t.keeps (map (lifted d) w.met) (trace_low t.keeps t.formed_so n (a + d) (omega arith) (map (lifted d) w.met) (w.alike d h)))

  reaches : (count room size : ℕ) → Gathered (lists m) items span count room size → Reach (found t.keeps (lists m) n) a (a + room)
  reaches count room size g =
      let l = w.last in
      let s = g.less in
      record {
        least = omega arith;
        most = omega (arith, l, s);
        raises = λ d h. at_node_up d (omega arith) ∙ each-raised (lists m) room d (omega arith) items g.steady ∙ ap (raise d) (sym at_node_is);
        none_past = λ d h x e. each_low (lists m) room d (omega arith) items g.steady (low_up d (omega arith)) x (ap (λ l. holds l x) (sym (at_node_up d (omega arith))) ∙ e);
      }

  pub resolved_ok : (count room size : ℕ) → Gathered (lists m) items span count room size → Resolved t.keeps m n a size (Ok (count, a + room))
  resolved_ok count room size g = (w.known, g.counts ∙ ap length (sym at_node_is), g.fits, reaches count room size g)

  pub resolved_short : (e : Fault) (size : ℕ) → (told e ≡ plain 9) × (size < length (each (lists m) items)) → Resolved t.keeps m n a size (Err e)
  resolved_short e size p = (p.0 ∙ in_range n (plain 9) (plain 1) w.known, λ _. subst (λ l. size < length l) (sym at_node_is) p.1)

  pub resolved_buffer : (old after : List Name) → after ≡ filled (each (lists m) items) old → after ≡ resolved_slots t.keeps m n a old
  resolved_buffer old after e = e ∙ ap (λ l. filled l old) (sym at_node_is) ∙ in_range n (filled (found t.keeps (lists m) n a) old) old w.known

  pub met_at : (b : Bool) (x : Name) → n ≡ t.keeps.entry → b ≡ holds (each (lists m) items) x → b ≡ holds (found t.keeps (lists m) t.keeps.entry a) x
  met_at b x e h = h ∙ ap (λ l. holds l x) (sym at_node_is) ∙ ap (λ y. holds (found t.keeps (lists m) y a) x) e

pub walked_slice : (k : Kept) (n a span : ℕ) (items all : List Note) → items ≡ all → Walked k n a all span → Walked k n a items span
walked_slice k n a span items all e w = subst (λ l. Walked k n a l span) (sym e) w

module _ (t : Inner) (m : Model) (n a : ℕ) (e : Fault) (h : a < top) (w : NotWalked t.keeps n a e) where
  pub resolved_unknown : (size : ℕ) → Resolved t.keeps m n a size (Err e)
  resolved_unknown size =
      let k = refused t n a e h w in
      (w.unknown k ∙ out_of_range n (plain 9) (plain 1) k, λ l. absurd (omega (arith, l, k)))

  pub unknown_buffer : (old : List Name) → old ≡ resolved_slots t.keeps m n a old
  unknown_buffer old = out_of_range n (filled (found t.keeps (lists m) n a) old) old (refused t n a e h w)

  pub never : n ≡ t.keeps.entry → ⊥
  never q =
      let k = refused t n a e h w in
      let y = t.formed_so.entry_known in
      absurd (omega (arith, q, k, y))

pub look_answer : (t : Inner) (m : Model) (n a size : ℕ) → n ≡ t.keeps.entry → (r : Result (record { 0 : ℕ; 1 : ℕ }) Fault)
    → Resolved t.keeps m n a size r
    → LookAnswer (found t.keeps (lists m) t.keeps.entry) a size r
look_answer t m n a size e (Ok g) p = (
  p.1 ∙ ap (λ x. length (found t.keeps (lists m) x a)) e,
  p.2,
  subst (λ x. Reach (found t.keeps (lists m) x) a g.1) e p.3,
)
look_answer t m n a size e (Err f) p =
    let k = t.formed_so.entry_known in (
      p.0 ∙ sym (in_range n (plain 9) (plain 1) (omega (arith, e, k))),
      subst (λ x. size < length (found t.keeps (lists m) x a)) e (p.1 (omega (arith, e, k))),
    )

pub look_buffer : (t : Inner) (m : Model) (n a : ℕ) → n ≡ t.keeps.entry → (old after : List Name)
    → after ≡ resolved_slots t.keeps m n a old → after ≡ filled (found t.keeps (lists m) t.keeps.entry a) old
look_buffer t m n a e old after p =
    let k = t.formed_so.entry_known in
    p ∙ sym (in_range n (filled (found t.keeps (lists m) n a) old) old (omega (arith, e, k))) ∙ ap (λ x. filled (found t.keeps (lists m) x a) old) e
