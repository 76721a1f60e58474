-- What waits in a queue, and where it is as the start rises.
use Rattle.std.proofs.Common.{◌≡◌, ℕ, suc, ◌+◌, ◌-◌, ◌%◌, ◌<◌, ◌≤◌, List, [], ◌∷◌, ◌++◌, map, length, get_or, take, drop, set, sym, refl, ap, ◌∙◌, arith}
use Rattle.std.proofs.lemmas.List.{append_assoc, append-nil, length-append, length-take-le, length-drop, length-map, map-append, take-append-drop, take-take, take_more_set, drop-append-le, drop_more, drop_all, drop-take, get_or-take}
use Rattle.model.specs.Names.{top}
use Rattle.model.specs.Nets.{Spot}
use Rattle.blocks.specs.declared.destination.Destination.{Destination}
use Rattle.blocks.specs.declared.destination.Destination.TheVariants.{Node, Below}
use Rattle.blocks.specs.Destinations.{spot_of}
use Rattle.walks.specs.Spans.{lifted}
use Rattle.quicksearch.specs.declared.memo.Target.{Target}
use Rattle.quicksearch.specs.Agendas.{placed, spots, waiting, address, Room}

pub address-spot : (d : Destination) (a : ℕ) → address (spot_of d a) ≡ a
address-spot (Node n) a = refl
address-spot Below a = refl

spot_up : (d : Destination) (a x : ℕ) → spot_of d (a + x) ≡ lifted x (spot_of d a)
spot_up (Node n) a x = refl
spot_up Below a x = refl

-- distances from the start, modulo the top
up_mod : (o start x : ℕ) → (o + start) % top + x < top → (o + (start + x)) % top ≡ (o + start) % top + x
up_mod o start x h = omega arith

pub back_mod : (a start : ℕ) → a < top → start < top → ((a + (top - start)) % top + start) % top ≡ a
back_mod a start h l = omega arith

pub spots_up : (start x extent : ℕ) (ts : List Target) → x ≤ extent → Room extent (spots start ts) → spots (start + x) ts ≡ map (lifted x) (spots start ts)
spots_up start x extent [] h u = refl
spots_up start x extent (t ∷ ts) h u =
    let a : ℕ = (t.offset + start) % top in
    let e : address (spot_of t.destination a) ≡ a = address-spot t.destination a in
    let l = u.0 in
    ap (λ z. z ∷ spots (start + x) ts) (ap (spot_of t.destination) (up_mod t.offset start x (omega arith)) ∙ spot_up t.destination a x)
    ∙ ap (λ z. lifted x (placed start t) ∷ z) (spots_up start x extent ts h u.1)

-- the parts of a queue
module _ (queue : List Target) where
  pub sliced : (head tail : ℕ) → head ≤ tail → take (tail - head) (drop head queue) ≡ waiting head tail queue
  sliced head tail h =
      let e : head + (tail - head) ≡ tail = omega arith in
      sym (drop-take head (tail - head) queue) ∙ ap (λ n. drop head (take n queue)) e

  pub length-waiting : (head tail : ℕ) → head ≤ tail → tail ≤ length queue → length (waiting head tail queue) ≡ tail - head
  length-waiting head tail h l = let e = length-take-le tail queue l in let d = length-drop head (take tail queue) in omega arith

  -- the first that waits, and the others
  pub waiting_first : (head tail : ℕ) (d : Target) → head < tail → tail ≤ length queue → waiting head tail queue ≡ get_or queue head d ∷ waiting (head + 1) tail queue
  waiting_first head tail d h l =
      let e = length-take-le tail queue l in
      drop_more (take tail queue) head d (omega arith) ∙ ap (λ z. z ∷ waiting (head + 1) tail queue) (get_or-take tail queue head d h)

  -- the others of a queue, and what was put behind them
  pub waiting_more : (old : List Target) (head tail end : ℕ) → head ≤ tail → tail ≤ end → tail ≤ length old → take tail queue ≡ take tail old
      → waiting head end queue ≡ waiting head tail old ++ waiting tail end queue
  waiting_more old head tail end h l b same =
      let n = length-take-le tail old b in
      ap (drop head) (sym (take-append-drop tail (take end queue)) ∙ ap (λ xs. xs ++ waiting tail end queue) (take-take tail end queue l ∙ same))
      ∙ drop-append-le head (take tail old) (waiting tail end queue) (omega arith)

  -- one more put behind
  pub waiting_push : (tail end : ℕ) (t : Target) → tail ≤ end → end < length queue → waiting tail (end + 1) (set queue end t) ≡ waiting tail end queue ++ t ∷ []
  waiting_push tail end t h l =
      let n : length (take end queue) ≡ end = length-take-le end queue (omega arith) in
      ap (drop tail) (take_more_set queue end t l) ∙ drop-append-le tail (take end queue) (t ∷ []) (omega arith)

  pub take-kept : (old : List Target) (tail end : ℕ) → tail ≤ end → take end queue ≡ take end old → take tail queue ≡ take tail old
  take-kept old tail end h e = sym (take-take tail end queue h) ∙ ap (take tail) e ∙ take-take tail end old h

pub waiting_none : (tail : ℕ) (queue : List Target) → tail ≤ length queue → waiting tail tail queue ≡ []
waiting_none tail queue h = let n = length-take-le tail queue h in drop_all tail (take tail queue) (omega arith)

-- spots laid out one after another, from tail on
module _ (all left : List Spot) (queue : List Target) (start tail end : ℕ) (h : tail ≤ end) (inv : spots start (waiting tail end queue) ++ left ≡ all) where
  pub lay_more : (s : Spot) (more : List Spot) (t : Target) → end < length queue → placed start t ≡ s → left ≡ s ∷ more → spots start (waiting tail (end + 1) (set queue end t)) ++ more ≡ all
  lay_more s more t l e f =
      ap (λ ts. spots start ts ++ more) (waiting_push queue tail end t h l) ∙ ap (λ xs. xs ++ more) (map-append (placed start) (waiting tail end queue) (t ∷ []))
      ∙ append_assoc (spots start (waiting tail end queue)) (placed start t ∷ []) more ∙ ap (λ z. spots start (waiting tail end queue) ++ z ∷ more) e
      ∙ ap (λ xs. spots start (waiting tail end queue) ++ xs) (sym f) ∙ inv

  pub lay_long : (s : Spot) (more : List Spot) (limit : ℕ) → end ≤ length queue → limit ≤ end → left ≡ s ∷ more → limit < tail + length all
  lay_long s more limit l b f =
      let w = length-waiting queue tail end h l in
      let m = length-map (waiting tail end queue) (placed start) in
      let a = length-append (spots start (waiting tail end queue)) left in
      let i : length (spots start (waiting tail end queue) ++ left) ≡ length all = ap length inv in
      let g : length left ≡ suc (length more) = ap length f in
      omega arith

  pub lay_all : left ≡ [] → spots start (waiting tail end queue) ≡ all
  lay_all e = sym (append-nil (spots start (waiting tail end queue))) ∙ ap (λ xs. spots start (waiting tail end queue) ++ xs) (sym e) ∙ inv
