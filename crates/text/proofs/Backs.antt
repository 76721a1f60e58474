use Rattle.std.proofs.Common.{◌≡◌, ℕ, zero, suc, ◌+◌, ◌*◌, ◌/◌, ◌%◌, ◌^◌, ◌<◌, ◌≤◌, Bool, true, false, cond, ◌&&◌, eqb, ltb, leb, List, [], ◌∷◌, ◌++◌, length, take, drop, is_some, Some, None, Ok, Option, unwrap_or, sym, refl, ap, ◌∙◌, add-zero, mod-eq_of_lt, zero-lt-suc, mul_assoc, div-lt_iff_lt-mul, add-mul, pow-suc, arith}
use native.Mathlib.Nat.{pow-succ', one-le-pow, pow-le-pow_right, div-div-eq-div-mul}
use lib.Arith.{mod-mul}
use Rattle.std.proofs.lemmas.Bool.Decides.{nat_tests}
use Rattle.std.proofs.lemmas.Bool.{le-leb, and_from, cond-true, cond-false, ne_eqb, eq-eqb, or_from}
use Rattle.std.proofs.lemmas.List.{append_assoc, append-nil, length-append, length-take, take_at, drop_at}
use Rattle.model.specs.declared.records.Record.{Record}
use Rattle.text.specs.declared.row.Layout.{Layout}
use Rattle.text.specs.declared.row.Layout.TheVariants.{Row, Address}
use Rattle.text.specs.Digits.{digit_value, digit_code}
use Rattle.text.specs.Numbers.{and_then, read_on, number_of, spelled}
use Rattle.text.specs.Rows.{width, space_at, fault_at, or_else, faults_from, checked, number_at, record_in, given, row_text}
use Rattle.text.specs.Laws.{WrittenRead, ReadWritten, WidthKept, Fitting, RowReadBack, AddressReadBack}
use Rattle.text.proofs.Spelling.{value_below}

pub length-spelled : WidthKept
unfolding spelled
length-spelled zero v = refl
length-spelled (suc k) v = ap suc (length-spelled k v)

pub value_code : (v : ℕ) → digit_value (digit_code v) ≡ Some (v % 16)
value_code v = let m : v % 16 < 16 = omega arith in grind (arith, nat_tests)

code_value : (c d : ℕ) → digit_value c ≡ Some d → cond (ltb d 10) (48 + d) (87 + d) ≡ c
code_value c d e = grind (arith, nat_tests)

-- reading what was written
read_spelled : (k v m : ℕ) → read_on m (spelled k v) ≡ Some (m * 16 ^ k + v % 16 ^ k)
unfolding read_on spelled
read_spelled zero v m = let e : m ≡ m * 1 + v % 1 = omega arith in ap Some e
read_spelled (suc k) v m =
    let p = 16 ^ k in
    let d = v / 16 ^ k % 16 in
    let e = mod-mul v {m = 16} {c = 16 ^ k} (zero-lt-suc 15) (one-le-pow k 16 (zero-lt-suc 15)) in
    let a = add-mul (16 * m) d p in
    let b = mul_assoc m 16 p in
    let f : m * 16 ≡ 16 * m = omega arith in
    let g : m * 16 * p ≡ 16 * m * p = ap (λ z. z * p) f in
    let s = pow-succ' 16 k in
    let q : m * 16 ^ suc k + v % 16 ^ suc k ≡ m * (16 * p) + v % (16 * p) = ap (λ z. m * z + v % z) s in
    let w : (16 * m + d) * p + v % p ≡ m * 16 ^ suc k + v % 16 ^ suc k = omega arith in
    ap (λ z. and_then z (λ x. read_on (16 * m + x) (spelled k v))) (value_code (v / 16 ^ k)) ∙ read_spelled k v (16 * m + d) ∙ ap Some w

pub written_read : WrittenRead
written_read n v a b h =
    let l = length-spelled n v in
    let t : (leb 1 (length (spelled n v)) && leb (length (spelled n v)) 16) ≡ true =
    and_from _ _ (le-leb 1 (length (spelled n v)) (omega arith)) (le-leb (length (spelled n v)) 16 (omega arith)) in
    let z : 0 * 16 ^ n + v % 16 ^ n ≡ v = omega (arith, mod-eq_of_lt h) in
    cond-true _ (read_on 0 (spelled n v)) None t ∙ read_spelled n v 0 ∙ ap Some z

-- writing what was read
back_step : (c : ℕ) (cs : List ℕ) (m v : ℕ) (o : Option ℕ) → digit_value c ≡ o → and_then o (λ d. read_on (16 * m + d) cs) ≡ Some v
    → ((n : ℕ) → read_on n cs ≡ Some v → (spelled (length cs) v ≡ cs) × (v / 16 ^ length cs ≡ n))
    → (spelled (suc (length cs)) v ≡ c ∷ cs) × (v / 16 ^ suc (length cs) ≡ m)
unfolding spelled
back_step c cs m v None e q rec = let z : ◌≡◌ {A = ℕ} 0 1 = cc in absurd (omega arith)
back_step c cs m v (Some d) e q rec =
    let r = rec (16 * m + d) q in
    let b = value_below c d e in
    let low : (16 * m + d) % 16 ≡ d = omega arith in
    let high : (16 * m + d) / 16 ≡ m = omega arith in
    let w : digit_code (v / 16 ^ length cs) ≡ c = ap digit_code r.1 ∙ ap (λ z. cond (ltb z 10) (48 + z) (87 + z)) low ∙ code_value c d e in (
      ap (λ z. z ∷ spelled (length cs) v) w ∙ ap (λ z. c ∷ z) r.0,
      ap (λ z. v / z) (pow-suc 16 (length cs)) ∙ sym (div-div-eq-div-mul v (16 ^ length cs) 16) ∙ ap (λ z. z / 16) r.1 ∙ high,
    )

spelled_back : (cs : List ℕ) (m v : ℕ) → read_on m cs ≡ Some v → (spelled (length cs) v ≡ cs) × (v / 16 ^ length cs ≡ m)
unfolding read_on spelled
spelled_back [] m v e = let q : m ≡ v = cc in (refl, omega arith)
spelled_back (c ∷ cs) m v e = back_step c cs m v (digit_value c) refl e (λ n q. spelled_back cs n v q)

pub read_written : ReadWritten
read_written cs v e = go (leb 1 (length cs) && leb (length cs) 16) e
  where
    go : (b : Bool) → cond b (read_on 0 cs) None ≡ Some v → spelled (length cs) v ≡ cs
    go true q = (spelled_back cs 0 v q).0
    go false q = let z : ◌≡◌ {A = ℕ} 0 1 = cc in absurd (omega arith)

-- a number is below what its digits can spell
number_small : (xs : List ℕ) (k : ℕ) → length xs ≤ k → unwrap_or (number_of xs) 0 < 16 ^ k
number_small xs k h = whole (leb 1 (length xs) && leb (length xs) 16)
  where
    read : (o : Option ℕ) → read_on 0 xs ≡ o → unwrap_or o 0 < 16 ^ k
    read None e = one-le-pow k 16 (zero-lt-suc 15)
    read (Some v) e =
        let q = (spelled_back xs 0 v e).1 in
        let z : v / 16 ^ length xs < 1 = omega arith in
        let w = (div-lt_iff_lt-mul (one-le-pow (length xs) 16 (zero-lt-suc 15))).0 z in
        let g : 16 ^ length xs ≤ 16 ^ k = pow-le-pow_right (zero-lt-suc 15) h in
        omega arith

    whole : (b : Bool) → unwrap_or (cond b (read_on 0 xs) None) 0 < 16 ^ k
    whole true = read (read_on 0 xs) refl
    whole false = one-le-pow k 16 (zero-lt-suc 15)

pub field_small : (cs : List ℕ) (from count : ℕ) → number_at cs from count < 16 ^ count
field_small cs from count = let l = length-take count (drop from cs) in number_small (take count (drop from cs)) count (omega arith)

-- digits stand in their columns
faults_digits : (l : Layout) (k i v : ℕ) (rest : List ℕ) → ((j : ℕ) → i ≤ j → j < i + k → space_at l j ≡ false) → faults_from l i (spelled k v ++ rest) ≡ faults_from l (i + k) rest
unfolding faults_from spelled
faults_digits l zero i v rest h = ap (λ z. faults_from l z rest) (sym (add-zero i))
faults_digits l (suc k) i v rest h =
    let c = digit_code (v / 16 ^ k) in
    let a = h i (omega arith) (omega arith) in
    let f : fault_at l i c ≡ Ok tt = cond-false _ _ _ a ∙ cond-true (is_some (digit_value c)) _ _ (ap is_some (value_code (v / 16 ^ k))) in
    let n : i + 1 + k ≡ i + suc k = omega arith in
    ap (λ z. or_else z (faults_from l (i + 1) (spelled k v ++ rest))) f ∙ faults_digits l k (i + 1) v rest (λ j p q. h j (omega arith) (omega arith)) ∙ ap (λ z. faults_from l z rest) n

pub no_space : (j : ℕ) → (j ≡ 16 → ⊥) → (j ≡ 33 → ⊥) → (j ≡ 42 → ⊥) → space_at Row j ≡ false
no_space j a b c = or_from _ _ (ne_eqb j 16 a) (or_from _ _ (ne_eqb j 33 b) (ne_eqb j 42 c))

row_faults : (r : Record) → faults_from Row 0 (row_text r) ≡ Ok tt
unfolding faults_from
row_faults r =
    let d = spelled 16 r.base in
    let t3 = spelled 8 r.component ++ (32 ∷ d) in
    let t2 = spelled 16 r.hi ++ (32 ∷ t3) in
    faults_digits Row 16 0 r.lo (32 ∷ t2) (λ j p q. no_space j (λ e. omega arith) (λ e. omega arith) (λ e. omega arith))
    ∙ faults_digits Row 16 17 r.hi (32 ∷ t3) (λ j p q. no_space j (λ e. omega arith) (λ e. omega arith) (λ e. omega arith))
    ∙ faults_digits Row 8 34 r.component (32 ∷ d) (λ j p q. no_space j (λ e. omega arith) (λ e. omega arith) (λ e. omega arith))
    ∙ ap (faults_from Row 43) (sym (append-nil d))
    ∙ faults_digits Row 16 43 r.base [] (λ j p q. no_space j (λ e. omega arith) (λ e. omega arith) (λ e. omega arith))

length-row : (r : Record) → length (row_text r) ≡ 59
length-row r =
    let a = spelled 16 r.lo in
    let b = spelled 16 r.hi in
    let c = spelled 8 r.component in
    let d = spelled 16 r.base in
    omega (
      arith,
      length-append a (32 ∷ (b ++ (32 ∷ (c ++ (32 ∷ d))))),
      length-append b (32 ∷ (c ++ (32 ∷ d))),
      length-append c (32 ∷ d),
      length-spelled 16 r.lo,
      length-spelled 16 r.hi,
      length-spelled 8 r.component,
      length-spelled 16 r.base,
    )

-- the number in a field that was written
field_back : (p rest cs : List ℕ) (from count v : ℕ) → cs ≡ p ++ (spelled count v ++ rest) → length p ≡ from → 1 ≤ count → count ≤ 16 → v < 16 ^ count → number_at cs from count ≡ v
field_back p rest cs from count v e n a b h =
    ap (λ z. number_at z from count) e ∙ ap (λ z. unwrap_or (number_of (take count z)) 0) (drop_at p (spelled count v ++ rest) from n)
    ∙ ap (λ z. unwrap_or (number_of z) 0) (take_at (spelled count v) rest count (length-spelled count v)) ∙ ap (λ z. unwrap_or z 0) (written_read count v a b h)

abbrev build : ℕ → ℕ → ℕ → ℕ → Record
build a b c d = record { lo = a; hi = b; component = c; base = d }

same_record : (a a' b b' c c' d d' : ℕ) → a ≡ a' → b ≡ b' → c ≡ c' → d ≡ d' → build a b c d ≡ build a' b' c' d'
same_record a a' b b' c c' d d' p q r s = ap (λ z. build z b c d) p ∙ ap (λ z. build a' z c d) q ∙ ap (λ z. build a' b' z d) r ∙ ap (λ z. build a' b' c' z) s

record_back : (r : Record) (cs : List ℕ) → cs ≡ row_text r → Fitting r → record_in cs ≡ r
record_back r cs e h =
    let a = spelled 16 r.lo in
    let b = spelled 16 r.hi in
    let c = spelled 8 r.component in
    let d = spelled 16 r.base in
    let s : List ℕ = 32 ∷ [] in
    let la = length-spelled 16 r.lo in
    let lb = length-spelled 16 r.hi in
    let lc = length-spelled 8 r.component in
    let p1 = a ++ s in
    let p2 = p1 ++ (b ++ s) in
    let p3 = p2 ++ (c ++ s) in
    let n1 : length p1 ≡ 17 = omega (arith, length-append a s) in
    let n2 : length p2 ≡ 34 = omega (arith, length-append p1 (b ++ s), length-append b s) in
    let n3 : length p3 ≡ 43 = omega (arith, length-append p2 (c ++ s), length-append c s) in
    let t3 = 32 ∷ (d ++ []) in
    let e4 : row_text r ≡ a ++ (32 ∷ (b ++ (32 ∷ (c ++ t3)))) = ap (λ z. a ++ (32 ∷ (b ++ (32 ∷ (c ++ (32 ∷ z)))))) (sym (append-nil d)) in
    let g1 : a ++ (32 ∷ (b ++ (32 ∷ (c ++ t3)))) ≡ p1 ++ (b ++ (32 ∷ (c ++ t3))) = sym (append_assoc a s (b ++ (32 ∷ (c ++ t3)))) in
    let g2 : p1 ++ (b ++ (32 ∷ (c ++ t3))) ≡ p2 ++ (c ++ t3) = ap (λ z. p1 ++ z) (sym (append_assoc b s (c ++ t3))) ∙ sym (append_assoc p1 (b ++ s) (c ++ t3)) in
    let g3 : p2 ++ (c ++ t3) ≡ p3 ++ (d ++ []) = ap (λ z. p2 ++ z) (sym (append_assoc c s (d ++ []))) ∙ sym (append_assoc p2 (c ++ s) (d ++ [])) in
    same_record _ r.lo _ r.hi _ r.component _ r.base
    (field_back [] (32 ∷ (b ++ (32 ∷ (c ++ t3)))) cs 0 16 r.lo (e ∙ e4) refl (omega arith) (omega arith) h.0)
    (field_back p1 (32 ∷ (c ++ t3)) cs 17 16 r.hi (e ∙ e4 ∙ g1) n1 (omega arith) (omega arith) h.1)
    (field_back p2 t3 cs 34 8 r.component (e ∙ e4 ∙ g1 ∙ g2) n2 (omega arith) (omega arith) h.2)
    (field_back p3 [] cs 43 16 r.base (e ∙ e4 ∙ g1 ∙ g2 ∙ g3) n3 (omega arith) (omega arith) h.3)

checked-all : (l : Layout) (cs : List ℕ) → length cs ≡ width l → faults_from l 0 cs ≡ Ok tt → checked l cs ≡ Ok tt
checked-all l cs e q = cond-true (eqb (length cs) (width l)) _ _ (eq-eqb (length cs) (width l) e) ∙ q

pub row_back : RowReadBack
row_back r h =
    ap (λ z. given z (record_in (row_text r))) (checked-all Row (row_text r) (length-row r) (row_faults r)) ∙ ap Ok (record_back r (row_text r) refl h)

pub address_back : AddressReadBack
unfolding faults_from
address_back v h =
    let e = sym (append-nil (spelled 16 v)) in
    let f : faults_from Address 0 (spelled 16 v) ≡ Ok tt = ap (faults_from Address 0) e ∙ faults_digits Address 16 0 v [] (λ j p q. refl) in
    ap (λ z. given z (number_at (spelled 16 v) 0 16)) (checked-all Address (spelled 16 v) (length-spelled 16 v) f)
    ∙ ap Ok (field_back [] [] (spelled 16 v) 0 16 v e refl (omega arith) (omega arith) h)
