-- The whole text, piece by piece.
use Rattle.std.proofs.Common.{◌≡◌, ℕ, ◌+◌, ◌*◌, ◌≤◌, List, [], ◌++◌, map, length, sym, refl, ap, ◌∙◌, arith}
use Rattle.std.proofs.lemmas.List.{append-nil, length-map}
use Rattle.model.specs.Nets.{Kept}
use Rattle.blocks.specs.declared.stored.Accepted.{Accepted}
use Rattle.blocks.specs.declared.stored.Mapped.{Mapped}
use Rattle.lists.specs.Held.{held}
use Rattle.blocks.specs.declared.stored.Blocks.{Blocks}
use Rattle.blocks.specs.Shape.{kept, accept_block, map_block}
use Rattle.writing.specs.declared.writer.Writer.{Writer}
use Rattle.writing.specs.Adding.{Adds, Fits}
use Rattle.writing.specs.Texts.{enter_line, accept_line, map_line, lines, overlay_lines, overlays_set, text_of}
use Rattle.writing.proofs.Lined.{length_text, lines-map}
use Rattle.writing.proofs.Writers.{Left, begun, room, step, done}

module _ (t : Blocks) {xs : List Accepted} {ys : List Mapped} (ea : xs ≡ held t.accepts) (em : ys ≡ held t.maps) (n : ℕ) (e : n ≡ overlays_set (kept t).overlays) where
  abbrev k : Kept
  k = kept t

  abbrev accepts : List ℕ
  accepts = lines (λ x. accept_line (accept_block x)) xs

  abbrev maps : List ℕ
  maps = lines (λ x. map_line (map_block x)) ys

  abbrev overlays : List ℕ
  overlays = overlay_lines 0 k.overlays

  split : text_of k ≡ enter_line k.entry ++ (accepts ++ (maps ++ overlays))
  split =
      ap (λ z. enter_line k.entry ++ (z ++ (lines map_line k.maps ++ overlays))) (sym (lines-map accept_line accept_block xs ∙ ap (λ z. lines accept_line (map accept_block z)) ea))
      ∙ ap (λ z. enter_line k.entry ++ (accepts ++ (z ++ overlays))) (sym (lines-map map_line map_block ys ∙ ap (λ z. lines map_line (map map_block z)) em))

  -- how long it is, by what the code counts
  pub text_long : length (text_of k) ≡ 5 + 37 * length xs + 55 * length ys + 7 * n
  text_long =
      let l = length_text k in
      let a = ap length ea in
      let m = ap length em in
      omega (arith, length-map (held t.accepts) accept_block, length-map (held t.maps) map_block)

  pub all_fits : {w0 : Writer} → w0.at ≡ 0 → 5 + 37 * length xs + 55 * length ys + 7 * n ≤ length w0.out.now → Fits (text_of k) w0
  all_fits z h = let t = text_long in record { within = omega arith }

  pub enter_fits : {w0 : Writer} → Fits (text_of k) w0 → Fits (enter_line k.entry) w0
  enter_fits {w0} f = room (enter_line k.entry) (accepts ++ (maps ++ overlays)) split f (begun (text_of k) w0)

  module _ {w0 w1 : Writer} (d1 : Adds (enter_line k.entry) w0 w1) (f : Fits (text_of k) w0) where
    l1 : Left (accepts ++ (maps ++ overlays)) w1 (text_of k) w0
    l1 = step (enter_line k.entry) (accepts ++ (maps ++ overlays)) split f (begun (text_of k) w0) w1 d1

    pub accepts_fit : Fits accepts w1
    accepts_fit = room accepts (maps ++ overlays) refl f l1

    module _ {w2 : Writer} (d2 : Adds accepts w1 w2) where
      l2 : Left (maps ++ overlays) w2 (text_of k) w0
      l2 = step accepts (maps ++ overlays) refl f l1 w2 d2

      pub maps_fit : Fits maps w2
      maps_fit = room maps overlays refl f l2

      module _ {w3 : Writer} (d3 : Adds maps w2 w3) where
        l3 : Left overlays w3 (text_of k) w0
        l3 = step maps overlays refl f l2 w3 d3

        pub overlays_fit : Fits overlays w3
        overlays_fit = room overlays [] (sym (append-nil overlays)) f l3

        pub all_added : {w4 : Writer} → Adds overlays w3 w4 → Adds (text_of k) w0 w4
        all_added {w4} d4 = done refl (step overlays [] (sym (append-nil overlays)) f l3 w4 d4)
