-- Lines written one after another, and how long they are.
use Rattle.std.proofs.Common.{◌≡◌, ℕ, suc, ◌+◌, ◌*◌, ◌<◌, Bool, true, false, cond, leb, List, [], ◌∷◌, ◌++◌, map, length, get_or, count_by, Some, None, Option, is_some, sym, refl, ap, ◌∙◌, mul-suc, arith}
use Rattle.std.proofs.lemmas.List.{length-append}
use Rattle.std.proofs.lemmas.List.Sums.{sum_by-cons}
use Rattle.std.proofs.lemmas.Bool.{le-leb}
use Rattle.model.specs.declared.blocks.AcceptBlock.{AcceptBlock}
use Rattle.model.specs.declared.blocks.MapBlock.{MapBlock}
use Rattle.model.specs.Nets.{Kept}
use Rattle.blocks.specs.declared.destination.Destination.{Destination}
use Rattle.blocks.specs.declared.destination.Destination.TheVariants.{Node, Below}
use Rattle.blocks.specs.Destinations.{overlay_number, OverlayKnown}
use Rattle.text.specs.Numbers.{spelled}
use Rattle.text.proofs.Backs.{length-spelled}
use Rattle.writing.specs.declared.writer.Field.{Field}
use Rattle.writing.specs.Fields.{line_of}
use Rattle.writing.specs.Texts.{enter_line, accept_line, map_line, overlay_line, lines, overlay_lines, text_of, set_or_not, overlays_set}

-- how long the lines are
abbrev width : List Field → ℕ
width [] = 1
width (f ∷ fs) = f.digits + width fs

length_line : (fs : List Field) → length (line_of fs) ≡ width fs
length_line [] = refl
length_line (f ∷ fs) = length-append (spelled f.digits f.value) (line_of fs) ∙ ap (λ n. n + length (line_of fs)) (length-spelled f.digits f.value) ∙ ap (λ n. f.digits + n) (length_line fs)

pub length_enter : (n : ℕ) → length (enter_line n) ≡ 5
length_enter n = length_line (record { value = 0x45; digits = 2 } ∷ record { value = n; digits = 2 } ∷ [])

pub length_accept : (b : AcceptBlock) → length (accept_line b) ≡ 37
length_accept b = length_line (record { value = 0x41; digits = 2 } ∷ record { value = b.node; digits = 2 } ∷ record { value = b.lo; digits = 16 } ∷ record { value = b.hi; digits = 16 } ∷ [])

pub length-mapped : (b : MapBlock) → length (map_line b) ≡ 55
length-mapped b = length_line (record { value = 0x4d; digits = 2 } ∷ record { value = b.node; digits = 2 } ∷ record { value = b.lo; digits = 16 } ∷ record { value = b.hi; digits = 16 } ∷ record { value = b.destination; digits = 2 } ∷ record { value = b.base; digits = 16 } ∷ [])

length_overlay : (n d : ℕ) → length (overlay_line n d) ≡ 7 * set_or_not d
length_overlay n d = go (leb d 32)
  where
    go : (b : Bool) → length (cond b (spelled 2 0x4f ++ (spelled 2 n ++ (spelled 2 d ++ (10 ∷ [])))) []) ≡ 7 * cond b 1 0
    go true = length_line (record { value = 0x4f; digits = 2 } ∷ record { value = n; digits = 2 } ∷ record { value = d; digits = 2 } ∷ [])
    go false = refl

pub length_overlays : (n : ℕ) (ds : List ℕ) → length (overlay_lines n ds) ≡ 7 * overlays_set ds
length_overlays n [] = refl
length_overlays n (d ∷ ds) =
    let e = length_overlays (n + 1) ds in
    let l = length_overlay n d in
    length-append (overlay_line n d) (overlay_lines (n + 1) ds) ∙ omega arith

-- lines of the same length
pub length-lines : {B : Type 0} (line : B → List ℕ) (n : ℕ) → ((b : B) → length (line b) ≡ n) → (bs : List B) → length (lines line bs) ≡ n * length bs
length-lines line n each [] = omega arith
length-lines line n each (b ∷ bs) =
    let e = length-lines line n each bs in
    let l = each b in
    let s = mul-suc n (length bs) in
    length-append (line b) (lines line bs) ∙ omega arith

pub lines-map : {X B : Type 0} (line : B → List ℕ) (plain : X → B) (xs : List X) → lines (λ x. line (plain x)) xs ≡ lines line (map plain xs)
lines-map line plain [] = refl
lines-map line plain (x ∷ xs) = ap (λ z. line (plain x) ++ z) (lines-map line plain xs)

-- an overlay that is there is set
one_set : (o : Option Destination) → OverlayKnown o → cond (is_some o) 1 0 ≡ set_or_not (overlay_number o)
one_set None h = refl
one_set (Some Below) h = refl
one_set (Some (Node n)) h = let b : n < 32 = h n refl in sym (ap (λ t. cond t 1 0) (le-leb n 32 (omega arith)))

pub counted : (xs : List (Option Destination)) → ((k : ℕ) → OverlayKnown (get_or xs k None)) → count_by is_some xs ≡ overlays_set (map overlay_number xs)
counted [] h = refl
counted (o ∷ xs) h = sum_by-cons (λ y. cond (is_some y) 1 0) o xs ∙ ap (λ n. n + count_by is_some xs) (one_set o (h 0)) ∙ ap (λ n. set_or_not (overlay_number o) + n) (counted xs (λ k. h (suc k)))

pub length_text : (k : Kept) → length (text_of k) ≡ 5 + 37 * length k.accepts + 55 * length k.maps + 7 * overlays_set k.overlays
length_text k =
    let e = enter_line k.entry in
    let a = lines accept_line k.accepts in
    let m = lines map_line k.maps in
    let v = overlay_lines 0 k.overlays in
    let l0 = length_enter k.entry in
    let l1 = length-lines accept_line 37 length_accept k.accepts in
    let l2 = length-lines map_line 55 length-mapped k.maps in
    let l3 = length_overlays 0 k.overlays in
    omega (arith, length-append e (a ++ (m ++ v)), length-append a (m ++ v), length-append m v)
