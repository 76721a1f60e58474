-- The items gathered so far, and one more.
use Rattle.std.proofs.Common.{◌≡◌, ℕ, ◌+◌, ◌-◌, ◌<◌, ◌≤◌, min, List, [], ◌∷◌, ◌++◌, length, get_or, take, drop, set, sym, refl, ap, ◌∙◌, subst, append_assoc, arith}
use borrow.Rule.Slice.PartMut.{put_mid}
use Rattle.std.specs.List.{AllByRecursion}
use Rattle.std.proofs.lemmas.Bool.{le-leb}
use Rattle.std.proofs.ByRecursion.{All-append}
use Rattle.std.proofs.lemmas.List.{append-nil, take_more, take-append-drop, take_all, length-append, length-drop, take_rest, drop_at, take_at, drop_all, drop-drop, drop_more, set_at, length_push}
use Rattle.model.specs.declared.names.Name.{Name}
use Rattle.model.specs.Looks.{Reach, filled}
use Rattle.walks.specs.declared.notes.Note.{Note}
use Rattle.walks.specs.declared.notes.Note.TheVariants.{Own, Arrival}
use Rattle.nets.specs.Gathering.{each, Steady, Gathered}

abbrev pub nothing : Name
nothing = record { component = 0; address = 0 }

pub each_append : (f : ℕ → List Name) (xs ys : List Note) → each f (xs ++ ys) ≡ each f xs ++ each f ys
each_append f [] ys = refl
each_append f (Own n ∷ xs) ys = ap (λ l. n ∷ l) (each_append f xs ys)
each_append f (Arrival a ∷ xs) ys = ap (λ l. f a ++ l) (each_append f xs ys) ∙ sym (append_assoc (f a) (each f xs) (each f ys))

-- one item more
each_more : (f : ℕ → List Name) (xs : List Note) (i : ℕ) (d x : Note) → i < length xs → get_or xs i d ≡ x
    → each f (take (i + 1) xs) ≡ each f (take i xs) ++ each f (x ∷ [])
each_more f xs i d x h e =
    ap (each f) (take_more xs i d h ∙ ap (λ y. take i xs ++ y ∷ []) e) ∙ each_append f (take i xs) (x ∷ [])

-- the list of a front is no longer than that of the whole
each_front : (f : ℕ → List Name) (xs : List Note) (i : ℕ) → length (each f (take i xs)) ≤ length (each f xs)
each_front f xs i =
    let e : each f (take i xs) ++ each f (drop i xs) ≡ each f xs =
    sym (each_append f (take i xs) (drop i xs)) ∙ ap (each f) (take-append-drop i xs) in
    let l = ap length e in
    let m = length-append (each f (take i xs)) (each f (drop i xs)) in
    omega (arith, l, m)

filled-fits : (xs old : List Name) → length xs ≤ length old → filled xs old ≡ xs ++ drop (length xs) old
filled-fits xs old h = rw (le-leb (length xs) (length old) h)

-- a reach, cut short
shorter : (f : ℕ → List Name) (a far near : ℕ) → Reach f a far → a ≤ near → near ≤ far → Reach f a near
shorter f a far near r h k =
    let m = r.most in
    record {
      least = h;
      most = omega arith;
      raises = λ d l. r.raises d (omega arith);
      none_past = λ d l. r.none_past d (omega arith);
    }

steady_less : (f : ℕ → List Name) (room less : ℕ) → less ≤ room → (xs : List Note) → AllByRecursion (Steady f room) xs → AllByRecursion (Steady f less) xs
steady_less f room less h [] s = tt
steady_less f room less h (Own x ∷ xs) s = (tt, steady_less f room less h xs s.1)
steady_less f room less h (Arrival a ∷ xs) s = (shorter f a (a + room) (a + less) s.0 (omega arith) (omega arith), steady_less f room less h xs s.1)

-- the first i items are gathered
pub record Going (f : ℕ → List Name) (xs : List Note) (span i count room : ℕ) (old slots : List Name) : Type 0 where
  pub counted : count ≡ length (each f (take i xs))
  pub placed : slots ≡ each f (take i xs) ++ drop count old
  pub within : count ≤ length old
  pub near : room ≤ span
  pub quiet : AllByRecursion (Steady f room) (take i xs)

module _ (f : ℕ → List Name) (xs : List Note) (span : ℕ) (old : List Name) where
  module _ (i count room : ℕ) (slots : List Name) (g : Going f xs span i count room old slots) where
    pub going_done : length xs ≤ i → Gathered f xs span count room (length old)
    going_done h =
        let e : take i xs ≡ xs = take_all i xs h in
        record {
          counts = g.counted ∙ ap (λ l. length (each f l)) e;
          fits = g.within;
          less = g.near;
          steady = subst (AllByRecursion (Steady f room)) e g.quiet;
        }

    pub going_filled : length xs ≤ i → slots ≡ filled (each f xs) old
    going_filled h =
        let e : take i xs ≡ xs = take_all i xs h in
        let c : count ≡ length (each f xs) = g.counted ∙ ap (λ l. length (each f l)) e in
        let w = g.within in
        g.placed ∙ ap (λ l. each f l ++ drop count old) e ∙ ap (λ n. each f xs ++ drop n old) c ∙ sym (filled-fits (each f xs) old (omega (arith, c, w)))

    same_size : length slots ≡ length old
    same_size =
        let p = ap length g.placed in
        let a = length-append (each f (take i xs)) (drop count old) in
        let d = length-drop count old in
        let c = g.counted in
        let w = g.within in
        omega (arith, p, a, d, c, w)

    module _ (x : Name) (d : Note) (at : i < length xs) (is : get_or xs i d ≡ Own x) where
      own-length : length (each f (take (i + 1) xs)) ≡ count + 1
      own-length = ap length (each_more f xs i d (Own x) at is) ∙ length_push (each f (take i xs)) x ∙ ap (λ n. n + 1) (sym g.counted)

      pub own_short : length slots ≤ count → length old < length (each f xs)
      own_short h =
          let l = own-length in
          let m = each_front f xs (i + 1) in
          let s = same_size in
          omega (arith, l, m, s)

      pub own_more : count < length slots → Going f xs span (i + 1) (count + 1) room old (set slots count x)
      own_more h =
          let s = same_size in
          let c = g.counted in
          let p : List Name = each f (take i xs) in
          record {
            counted = sym own-length;
            placed =
                ap (λ l. set l count x) (g.placed ∙ ap (λ l. p ++ l) (drop_more old count nothing (omega (arith, s))))
                ∙ set_at p (get_or old count nothing) (drop (count + 1) old) x count (sym c)
                ∙ sym (append_assoc p (x ∷ []) (drop (count + 1) old))
                ∙ ap (λ l. l ++ drop (count + 1) old) (sym (each_more f xs i d (Own x) at is));
            within = omega (arith, s);
            near = g.near;
            quiet = subst (AllByRecursion (Steady f room)) (sym (take_more xs i d at ∙ ap (λ y. take i xs ++ y ∷ []) is)) (All-append (Steady f room) (take i xs) (Own x ∷ []) g.quiet (tt, tt));
          }

    module _ (a : ℕ) (d : Note) (at : i < length xs) (is : get_or xs i d ≡ Arrival a) where
      more_is : each f (take (i + 1) xs) ≡ each f (take i xs) ++ f a
      more_is = each_more f xs i d (Arrival a) at is ∙ ap (λ q. each f (take i xs) ++ q) (append-nil (f a))

      more_length : length (each f (take (i + 1) xs)) ≡ count + length (f a)
      more_length = ap length more_is ∙ length-append (each f (take i xs)) (f a) ∙ ap (λ n. n + length (f a)) (sym g.counted)

      part_is : take (length slots - count) (drop count slots) ≡ drop count old
      part_is = take_rest slots count ∙ ap (drop count) g.placed ∙ drop_at (each f (take i xs)) (drop count old) count (sym g.counted)

      part_size : length (take (length slots - count) (drop count slots)) ≡ length old - count
      part_size = ap length part_is ∙ length-drop count old

      pub arrival_short : length (take (length slots - count) (drop count slots)) < length (f a) → length old < length (each f xs)
      arrival_short h =
          let l = more_length in
          let m = each_front f xs (i + 1) in
          let p = part_size in
          let w = g.within in
          omega (arith, l, m, p, w)

      pub arrival_more : (more reach : ℕ) (part : List Name)
          → more ≡ length (f a) → more ≤ length (take (length slots - count) (drop count slots)) → Reach f a reach
          → part ≡ filled (f a) (take (length slots - count) (drop count slots))
          → Going f xs span (i + 1) (count + more) (min room (reach - a)) old (put_mid count (length slots - count) slots part)
      arrival_more more reach part em hm r ep =
          let s = same_size in
          let c = g.counted in
          let w = g.within in
          let near = g.near in
          let ps = part_size in
          let ml = more_length in
          let rl = r.least in
          let p : List Name = each f (take i xs) in
          let q : part ≡ f a ++ drop (length (f a)) (drop count old) =
          ep ∙ ap (filled (f a)) part_is ∙ filled-fits (f a) (drop count old) (let z = length-drop count old in omega (arith, z, em, hm, ps)) in
          let front : take count slots ≡ p = ap (take count) g.placed ∙ take_at p (drop count old) count (sym c) in
          let back : drop (length slots - count) (drop count slots) ≡ [] =
          drop_all (length slots - count) (drop count slots) (let z = length-drop count slots in omega (arith, z)) in
          record {
            counted = omega (arith, em, ml);
            placed =
                ap (λ l. take count slots ++ (part ++ l)) back
                ∙ ap (λ l. l ++ (part ++ [])) front
                ∙ ap (λ l. p ++ l) (append-nil part ∙ q ∙ ap (λ l. f a ++ l) (drop-drop (length (f a)) count old))
                ∙ sym (append_assoc p (f a) (drop (count + length (f a)) old))
                ∙ ap (λ l. l ++ drop (count + length (f a)) old) (sym more_is)
                ∙ ap (λ n. each f (take (i + 1) xs) ++ drop (count + n) old) (sym em);
            within = omega (arith, hm, ps, w);
            near = omega (arith, near);
            quiet =
                subst (AllByRecursion (Steady f (min room (reach - a)))) (sym (take_more xs i d at ∙ ap (λ y. take i xs ++ y ∷ []) is))
                (All-append (Steady f (min room (reach - a))) (take i xs) (Arrival a ∷ [])
                (steady_less f room (min room (reach - a)) (omega arith) (take i xs) g.quiet)
                (shorter f a reach (a + min room (reach - a)) r (omega arith) (omega (arith, rl)), tt));
          }

pub going_as : (f : ℕ → List Name) (xs : List Note) (span i : ℕ) (old : List Name) (count count' room room' : ℕ) (slots slots' : List Name)
    → Going f xs span i count room old slots → count' ≡ count → room' ≡ room → slots' ≡ slots → Going f xs span i count' room' old slots'
going_as f xs span i old count count' room room' slots slots' g a b c =
    subst (λ n. Going f xs span i n room' old slots') (sym a) (subst (λ n. Going f xs span i count n old slots') (sym b) (subst (λ s. Going f xs span i count room old s) (sym c) g))
