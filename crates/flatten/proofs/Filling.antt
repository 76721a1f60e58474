-- What the counting pass and the writing pass keep.
use Rattle.std.proofs.Common.{◌≡◌, ℕ, ◌+◌, ◌-◌, ◌*◌, ◌<◌, ◌≤◌, true, List, [], ◌++◌, map, length, take, drop, sym, refl, ap, ◌∙◌, subst, inl, inr, append_assoc, arith}
use Rattle.std.proofs.lemmas.Bool.{cases_lt}
use Rattle.std.proofs.lemmas.List.{append-nil, take_at, drop_at, take_rest, drop-drop, drop_all, length-take-le, length-map, length-append, length-drop}
use borrow.Rule.Slice.PartMut.{put_mid}
use Rattle.model.specs.declared.names.Name.{Name}
use Rattle.model.specs.declared.records.Record.{Record}
use Rattle.model.specs.Names.{top}
use Rattle.flatten.specs.declared.stretch.Stretch.{Stretch}
use Rattle.flatten.specs.Runs.{Run, Flattened, once, seam, needed, fits}
use Rattle.flatten.specs.Steps.{Held, Ended, row, rows, closed}
use Rattle.flatten.proofs.Seams.{run_outside, needed-zero, needed_run, needed-room, fits_from}
use Rattle.flatten.proofs.Tables.{Table, no_rows, table_snoc, ends_rows, rows_made, closed-rows, flattened}

seam_start : (list : ℕ → List Name) (a : ℕ) → a ≡ 0 → seam list a ≡ true
seam_start list a e = ap (seam list) e

needed_start : (list : ℕ → List Name) (a : ℕ) → a ≡ 0 → 0 ≡ needed list a
needed_start list a e = sym (ap (needed list) e ∙ needed-zero list)

-- the run of a stretch that ends before another stretch
next_seam : (list : ℕ → List Name) (lo : ℕ) (scratch : List Name) (t : Stretch) → lo < t.address → Run list lo (t.address - 1) → Held list scratch t → seam list t.address ≡ true
next_seam list lo scratch t l r h =
    let e : (t.address - 1) + 1 ≡ t.address = omega arith in
    let least = h.reaches.least in
    let most = h.reaches.most in
    subst (λ a. seam list a ≡ true) e (run_outside list lo (t.address - 1) r (omega arith))

-- what the counting pass keeps
pub record Measured (list : ℕ → List Name) (room : ℕ) (scratch : List Name) (s : Stretch) (total : ℕ) : Type 0 where
  pub size : length scratch ≡ room
  pub held : Held list scratch s
  pub first : seam list s.address ≡ true
  pub counted : total ≡ needed list s.address
  pub fit : (a : ℕ) → a < s.address → length (list a) ≤ room
  pub small : total ≤ s.address * 18446744073709551616

pub measured_start : (list : ℕ → List Name) (scratch : List Name) (s : Stretch) → s.address ≡ 0 → Held list scratch s → Measured list (length scratch) scratch s 0
measured_start list scratch s e h = record {
  size = refl;
  held = h;
  first = seam_start list s.address e;
  counted = needed_start list s.address e;
  fit = λ a l. absurd (omega arith);
  small = omega arith;
}

module _ (list : ℕ → List Name) (room : ℕ) (scratch : List Name) (s : Stretch) (total : ℕ) (m : Measured list room scratch s total)
    (xs : List Name) (x : xs ≡ list s.address) (d : ℕ) (is : d ≡ length (once xs)) where
  one_more : (hi : ℕ) → Run list s.address hi → total + d ≡ needed list (hi + 1)
  one_more hi r =
      let e : d ≡ length (once (list s.address)) = is ∙ ap (λ t. length (once t)) x in
      let c = m.counted in
      let n = needed_run list s.address hi r m.first in
      omega (arith, e, c, n)

  pub measured_more : (after : List Name) (t : Stretch) → d < 18446744073709551616 → length after ≡ room
      → (s.address < t.address) × Ended list s.address (t.address - 1) room → Held list after t → Measured list room after t (total + d)
  measured_more after t b len k h =
      let lt = k.0 in
      let small = m.small in
      let e : (t.address - 1) + 1 ≡ t.address = omega arith in
      record {
        size = len;
        held = h;
        first = next_seam list s.address after t lt k.1.run h;
        counted = one_more (t.address - 1) k.1.run ∙ ap (needed list) e;
        fit = λ a l. elim (cases_lt a s.address) [ inl q ↦ m.fit a q | inr q ↦ k.1.fit a q (omega arith) ];
        small = omega arith;
      }

  pub measured_all : Ended list s.address 18446744073709551615 room → (total + d ≡ needed list top) × (fits list room top ≡ true)
  measured_all k = (
    one_more 18446744073709551615 k.run,
    fits_from list room top (λ a l. elim (cases_lt a s.address) [ inl q ↦ m.fit a q | inr q ↦ k.fit a q (omega arith) ]),
  )

-- what the writing pass keeps
pub record Filled (list : ℕ → List Name) (room : ℕ) (before : List Record) (scratch : List Name) (s : Stretch) (n : ℕ) (table : List Record) : Type 0 where
  pub size : length scratch ≡ room
  pub long : length table ≡ length before
  pub inside : n ≤ length table
  pub held : Held list scratch s
  pub first : seam list s.address ≡ true
  pub counted : n ≡ needed list s.address
  pub flat : Table list s.address 0 (take n table)
  pub kept : drop n table ≡ drop n before

-- one run's rows, written from n on and then closed
module _ (lo hi n m : ℕ) (ys : List Name) (T part1 part2 : List Record) (within : n + m ≤ length T) (is : m ≡ length ys)
    (wrote : part1 ≡ rows lo lo ys ++ drop m (take (length T - n) (drop n T)))
    (shut : part2 ≡ map (closed hi) (take ((n + m) - n) (drop n (put_mid n (length T - n) T part1)))) where
  written : put_mid n (length T - n) T part1 ≡ take n T ++ (rows lo lo ys ++ drop (n + m) T)
  written =
      let p : part1 ≡ rows lo lo ys ++ drop (n + m) T = wrote ∙ ap (λ t. rows lo lo ys ++ drop m t) (take_rest T n) ∙ ap (λ t. rows lo lo ys ++ t) (drop-drop m n T) in
      let z : drop (length T - n) (drop n T) ≡ [] = drop-drop (length T - n) n T ∙ drop_all (n + (length T - n)) T (omega arith) in
      ap (λ t. take n T ++ (part1 ++ t)) z ∙ ap (λ t. take n T ++ t) (append-nil part1 ∙ p)

  size_a : length (take n T) ≡ n
  size_a = length-take-le n T (omega arith)

  size_r : (h : ℕ) → length (rows lo h ys) ≡ m
  size_r h = length-map ys (row lo h) ∙ sym is

  take_1 : take n (put_mid n (length T - n) T part1) ≡ take n T
  take_1 = ap (take n) written ∙ take_at (take n T) (rows lo lo ys ++ drop (n + m) T) n size_a

  drop_1 : drop n (put_mid n (length T - n) T part1) ≡ rows lo lo ys ++ drop (n + m) T
  drop_1 = ap (drop n) written ∙ drop_at (take n T) (rows lo lo ys ++ drop (n + m) T) n size_a

  back : (n + m) - n ≡ m
  back = omega arith

  part_2 : part2 ≡ rows lo hi ys
  part_2 = shut ∙ ap (λ k. map (closed hi) (take k (drop n (put_mid n (length T - n) T part1)))) back
      ∙ ap (λ t. map (closed hi) (take m t)) drop_1
      ∙ ap (map (closed hi)) (take_at (rows lo lo ys) (drop (n + m) T) m (size_r lo))
      ∙ closed-rows lo hi ys

  pub table_2 : put_mid n ((n + m) - n) (put_mid n (length T - n) T part1) part2 ≡ (take n T ++ rows lo hi ys) ++ drop (n + m) T
  table_2 =
      let T1 : List Record = put_mid n (length T - n) T part1 in
      let z : drop ((n + m) - n) (drop n T1) ≡ drop (n + m) T =
      ap (λ k. drop k (drop n T1)) back ∙ ap (drop m) drop_1 ∙ drop_at (rows lo lo ys) (drop (n + m) T) m (size_r lo) in
      ap (λ t. t ++ (part2 ++ drop ((n + m) - n) (drop n T1))) take_1
      ∙ ap (λ t. take n T ++ (t ++ drop ((n + m) - n) (drop n T1))) part_2
      ∙ ap (λ t. take n T ++ (rows lo hi ys ++ t)) z
      ∙ sym (append_assoc (take n T) (rows lo hi ys) (drop (n + m) T))

  size_ar : length (take n T ++ rows lo hi ys) ≡ n + m
  size_ar = let a = size_a in let r = size_r hi in let l = length-append (take n T) (rows lo hi ys) in omega (arith, a, r, l)

  pub take_2 : take (n + m) (put_mid n ((n + m) - n) (put_mid n (length T - n) T part1) part2) ≡ take n T ++ rows lo hi ys
  take_2 = ap (take (n + m)) table_2 ∙ take_at (take n T ++ rows lo hi ys) (drop (n + m) T) (n + m) size_ar

  pub drop_2 : drop (n + m) (put_mid n ((n + m) - n) (put_mid n (length T - n) T part1) part2) ≡ drop (n + m) T
  drop_2 = ap (drop (n + m)) table_2 ∙ drop_at (take n T ++ rows lo hi ys) (drop (n + m) T) (n + m) size_ar

  pub size_2 : length (put_mid n ((n + m) - n) (put_mid n (length T - n) T part1) part2) ≡ length T
  size_2 =
      let a = size_ar in
      let l = length-append (take n T ++ rows lo hi ys) (drop (n + m) T) in
      let d = length-drop (n + m) T in
      let e = ap length table_2 in
      omega (arith, a, l, d, e)

pub filled_start : (list : ℕ → List Name) (before : List Record) (scratch : List Name) (s : Stretch) → s.address ≡ 0 → Held list scratch s → Filled list (length scratch) before scratch s 0 before
filled_start list before scratch s e h = record {
  size = refl;
  long = refl;
  inside = omega arith;
  held = h;
  first = seam_start list s.address e;
  counted = needed_start list s.address e;
  flat = no_rows (sym e) refl;
  kept = refl;
}

module _ (list : ℕ → List Name) (room : ℕ) (before : List Record) (scratch : List Name) (s : Stretch) (n : ℕ) (T : List Record)
    (f : Filled list room before scratch s n T) (enough : needed list top ≤ length before) (xs : List Name) (x : xs ≡ list s.address) where
  pub filled-room : n + length (once xs) ≤ length T
  filled-room =
      let least = f.held.reaches.least in
      let most = f.held.reaches.most in
      let a = needed-room list s.address top (omega arith) f.first in
      let e : length (once xs) ≡ length (once (list s.address)) = ap (λ t. length (once t)) x in
      let l = f.long in
      let c = f.counted in
      omega (arith, a, e, l, c)

  module _ (m : ℕ) (part1 : List Record) (is : m ≡ length (once xs))
      (wrote : part1 ≡ rows s.address s.address (once xs) ++ drop m (take (length T - n) (drop n T)))
      (hi : ℕ) (part2 : List Record)
      (shut : part2 ≡ map (closed hi) (take ((n + m) - n) (drop n (put_mid n (length T - n) T part1))))
      (r : Run list s.address hi) where
    within : n + m ≤ length T
    within = let q = filled-room in omega (arith, q, is)

    table_more : Table list (hi + 1) 0 (take (n + m) (put_mid n ((n + m) - n) (put_mid n (length T - n) T part1) part2))
    table_more =
        subst (λ t. Table list (hi + 1) 0 t) (sym (take_2 s.address hi n m (once xs) T part1 part2 within is wrote shut))
        (table_snoc list s.address hi (rows s.address hi (once xs)) r (ends_rows s.address hi (once xs))
        (rows_made list s.address hi xs x) 0 (take n T) f.flat)

    count_more : n + m ≡ needed list (hi + 1)
    count_more =
        let e : m ≡ length (once (list s.address)) = is ∙ ap (λ t. length (once t)) x in
        let c = f.counted in
        let q = needed_run list s.address hi r f.first in
        omega (arith, e, c, q)

    kept_more : drop (n + m) (put_mid n ((n + m) - n) (put_mid n (length T - n) T part1) part2) ≡ drop (n + m) before
    kept_more =
        drop_2 s.address hi n m (once xs) T part1 part2 within is wrote shut
        ∙ sym (drop-drop m n T) ∙ ap (drop m) f.kept ∙ drop-drop m n before

    pub filled_last : hi ≡ 18446744073709551615 → (n + m ≡ needed list top)
        × Flattened list (take (n + m) (put_mid n ((n + m) - n) (put_mid n (length T - n) T part1) part2))
        × (drop (n + m) (put_mid n ((n + m) - n) (put_mid n (length T - n) T part1) part2) ≡ drop (n + m) before)
    filled_last e =
        let last : hi + 1 ≡ top = omega arith in (
          count_more ∙ ap (needed list) last,
          flattened list (take (n + m) (put_mid n ((n + m) - n) (put_mid n (length T - n) T part1) part2))
              (subst (λ t. Table list t 0 (take (n + m) (put_mid n ((n + m) - n) (put_mid n (length T - n) T part1) part2))) last table_more),
          kept_more,
        )

    pub filled_more : (after : List Name) (t : Stretch) → hi ≡ t.address - 1 → s.address < t.address → length after ≡ room → Held list after t
        → Filled list room before after t (n + m) (put_mid n ((n + m) - n) (put_mid n (length T - n) T part1) part2)
    filled_more after t e lt len h =
        let next : hi + 1 ≡ t.address = omega arith in
        let z = size_2 s.address hi n m (once xs) T part1 part2 within is wrote shut in
        let w = within in
        record {
          size = len;
          long = z ∙ f.long;
          inside = omega (arith, z, w);
          held = h;
          first = next_seam list s.address after t lt (subst (λ x. Run list s.address x) e r) h;
          counted = count_more ∙ ap (needed list) next;
          flat = subst (λ a. Table list a 0 (take (n + m) (put_mid n ((n + m) - n) (put_mid n (length T - n) T part1) part2))) next table_more;
          kept = kept_more;
        }
