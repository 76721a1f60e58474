-- An agenda turned round, so that another spot is its first, and turned back.
use Rattle.std.proofs.Common.{◌≡◌, ℕ, ◌+◌, ◌-◌, ◌<◌, ◌≤◌, List, [], ◌∷◌, ◌++◌, length, take, drop, false, None, Option, is_some, sym, ap, ◌∙◌, subst, arith}
use borrow.Rule.Slice.PartMut.{put_mid, same_len_mid}
use Rattle.std.proofs.lemmas.List.{length-take-le, length-drop, map-append, take-append-drop, take-take, take_at, drop_at}
use Rattle.std.proofs.lemmas.Slice.{take-put_mid}
use Rattle.std.proofs.ByRecursion.{All-append}
use Rattle.std.specs.List.{AllByRecursion}
use Rattle.model.specs.Names.{top}
use Rattle.model.specs.Nets.{Kept, Spot}
use Rattle.blocks.specs.declared.stored.Blocks.{Blocks}
use Rattle.blocks.specs.Shape.{kept}
use Rattle.quicksearch.specs.declared.memo.Range.{Range}
use Rattle.quicksearch.specs.declared.memo.Target.{Target}
use Rattle.quicksearch.specs.Exceeding.{Within, FirstIn}
use Rattle.quicksearch.specs.Agendas.{placed, spots, waiting, address, Room, Waits}
use Rattle.quicksearch.proofs.Exceeds.{first_swap, of_net, none_of}
use Rattle.quicksearch.proofs.Queues.{sliced, length-waiting}

all_front : {X : Type 0} (P : X → Type 0) (xs ys : List X) → AllByRecursion P (xs ++ ys) → AllByRecursion P xs
all_front P [] ys u = tt
all_front P (x ∷ xs) ys u = (u.0, all_front P xs ys u.1)

all_back : {X : Type 0} (P : X → Type 0) (xs ys : List X) → AllByRecursion P (xs ++ ys) → AllByRecursion P ys
all_back P [] ys u = u
all_back P (x ∷ xs) ys u = all_back P xs ys u.1

module _ (ts : List Target) (start i : ℕ) where
  abbrev pub turned : List Target
  turned = drop i ts ++ take i ts

  parts : spots start (take i ts) ++ spots start (drop i ts) ≡ spots start ts
  parts = sym (map-append (placed start) (take i ts) (drop i ts)) ∙ ap (spots start) (take-append-drop i ts)

  -- the same spots have the same room, and meet as many names
  pub room_turned : (extent : ℕ) → Room extent (spots start ts) → Room extent (spots start turned)
  room_turned extent u =
      let v = subst (Room extent) (sym parts) u in
      let P : Spot → Type 0 = λ s. address s + extent < top in
      subst (Room extent) (sym (map-append (placed start) (drop i ts) (take i ts)))
      (All-append P (spots start (drop i ts)) (spots start (take i ts)) (all_back P (spots start (take i ts)) (spots start (drop i ts)) v) (all_front P (spots start (take i ts)) (spots start (drop i ts)) v))

  pub first_turned : (k : Kept) (b extent : ℕ) (o : Option ℕ) → FirstIn k b (spots start turned) extent o → FirstIn k b (spots start ts) extent o
  first_turned k b extent o w =
      subst (λ xs. FirstIn k b xs extent o) parts
      (first_swap k b (spots start (drop i ts)) (spots start (take i ts)) extent o (subst (λ xs. FirstIn k b xs extent o) (map-append (placed start) (drop i ts) (take i ts)) w))

-- a queue in which a part is replaced by as many
module _ (queue : List Target) (head tail : ℕ) (h : head ≤ tail) (l : tail ≤ length queue) (ys : List Target) (e : length ys ≡ tail - head) where
  abbrev put : List Target
  put = put_mid head (tail - head) queue ys

  front_put : take tail put ≡ take head queue ++ ys
  front_put = take-put_mid head (tail - head) queue ys tail (omega arith) (omega arith)

  waiting_put : waiting head tail put ≡ ys
  waiting_put = ap (drop head) front_put ∙ drop_at (take head queue) ys head (length-take-le head queue (omega arith))

-- the part of a queue in which an agenda waits
module _ {queue : List Target} {head tail : ℕ} {starts : Range} (w : Waits queue head tail starts) where
  abbrev cut : List Target
  cut = take (tail - head) (drop head queue)

  part : cut ≡ waiting head tail queue
  part = sliced queue head tail w.ordered

  long : length (waiting head tail queue) ≡ tail - head
  long = length-waiting queue head tail w.ordered (omega arith)

  pub room_cut : Room starts.extent (spots starts.low cut)
  room_cut = subst (λ ts. Room starts.extent (spots starts.low ts)) (sym part) w.room

  pub within_cut : {b c : Blocks} → b ≡ c → (n : ℕ) → Within (kept b) n (spots starts.low cut) starts.extent → Within (kept c) n (spots starts.low (waiting head tail queue)) starts.extent
  within_cut {b} {c} e n f = of_net e n (spots starts.low (waiting head tail queue)) starts.extent None (subst (λ ts. Within (kept b) n (spots starts.low ts) starts.extent) part f)

  -- the agenda turned by i, as a call of `rotate_left` leaves it
  module _ {i : ℕ} (j : i ≤ length cut) {ys : List Target} (l : length ys ≡ length cut) (is : ys ≡ drop i cut ++ take i cut) where
    abbrev agenda : List Target
    agenda = waiting head tail queue

    within : i ≤ length agenda
    within = subst (λ ts. i ≤ length ts) part j

    ys_is : ys ≡ turned agenda 0 i
    ys_is = is ∙ ap (λ ts. drop i ts ++ take i ts) part

    length_ys : length ys ≡ tail - head
    length_ys = l ∙ ap length part ∙ long

    pub turned_waiting : waiting head tail (put_mid head (tail - head) queue ys) ≡ turned agenda 0 i
    turned_waiting = waiting_put queue head tail w.ordered (omega arith) ys length_ys ∙ ys_is

    pub turned_length : length (put_mid head (tail - head) queue ys) ≡ length queue
    turned_length = same_len_mid head (tail - head) queue ys l

    pub turned_waits : Waits (put_mid head (tail - head) queue ys) head tail starts
    turned_waits = record {
      ordered = w.ordered;
      inside = w.inside;
      long = turned_length ∙ w.long;
      room = subst (λ ts. Room starts.extent (spots starts.low ts)) (sym turned_waiting) (room_turned agenda starts.low i starts.extent w.room);
    }

    first_here : (k : Kept) (n : ℕ) (o : Option ℕ) → FirstIn k n (spots starts.low (waiting head tail (put_mid head (tail - head) queue ys))) starts.extent o → FirstIn k n (spots starts.low agenda) starts.extent o
    first_here k n o f = first_turned agenda starts.low i k n starts.extent o (subst (λ ts. FirstIn k n (spots starts.low ts) starts.extent o) turned_waiting f)

    pub first_back : {b c : Blocks} → b ≡ c → (n : ℕ) (o : Option ℕ) → FirstIn (kept b) n (spots starts.low (waiting head tail (put_mid head (tail - head) queue ys))) starts.extent o → FirstIn (kept c) n (spots starts.low agenda) starts.extent o
    first_back {b} {c} e n o f = of_net e n (spots starts.low agenda) starts.extent o (first_here (kept b) n o f)

    -- turned back by `rotate_right`, it is as it was
    module _ (later zs : List Target) (same_length : length later ≡ length (put_mid head (tail - head) queue ys)) (same : take tail later ≡ take tail (put_mid head (tail - head) queue ys))
        (e : zs ≡ drop (length (take (tail - head) (drop head later)) - i) (take (tail - head) (drop head later)) ++ take (length (take (tail - head) (drop head later)) - i) (take (tail - head) (drop head later))) where
      pub turned_back : take tail (put_mid head (tail - head) later zs) ≡ take tail queue
      turned_back =
          let enough : tail ≤ length later = omega (arith, turned_length) in
          let n : length (take head queue) ≡ head = length-take-le head queue (omega arith) in
          let front : take tail later ≡ take head queue ++ turned agenda 0 i = same ∙ front_put queue head tail w.ordered (omega arith) ys length_ys ∙ ap (λ xs. take head queue ++ xs) ys_is in
          let v : take (tail - head) (drop head later) ≡ turned agenda 0 i =
          sliced later head tail w.ordered ∙ ap (drop head) front ∙ drop_at (take head queue) (turned agenda 0 i) head n in
          let long-turned : length (turned agenda 0 i) ≡ tail - head = ap length (sym ys_is) ∙ length_ys in
          let d : length (drop i agenda) ≡ length (turned agenda 0 i) - i = let q = length-drop i agenda in omega (arith, long, long-turned) in
          let back : zs ≡ agenda =
          e ∙ ap (λ xs. drop (length xs - i) xs ++ take (length xs - i) xs) v
          ∙ ap (λ xs. xs ++ take (length (turned agenda 0 i) - i) (turned agenda 0 i)) (drop_at (drop i agenda) (take i agenda) (length (turned agenda 0 i) - i) d)
          ∙ ap (λ xs. take i agenda ++ xs) (take_at (drop i agenda) (take i agenda) (length (turned agenda 0 i) - i) d) ∙ take-append-drop i agenda in
          let f : take head later ≡ take head queue = sym (take-take head tail later w.ordered) ∙ ap (take head) front ∙ take_at (take head queue) (turned agenda 0 i) head n in
          let whole : take head queue ++ agenda ≡ take tail queue = ap (λ xs. xs ++ agenda) (sym (take-take head tail queue w.ordered)) ∙ take-append-drop head (take tail queue) in
          take-put_mid head (tail - head) later zs tail (let b = ap length back in omega (arith, long)) (omega arith) ∙ ap (λ xs. xs ++ zs) f ∙ ap (λ xs. take head queue ++ xs) back ∙ whole

      back : take (tail - head) (drop head (put_mid head (tail - head) later zs)) ≡ agenda
      back = sliced (put_mid head (tail - head) later zs) head tail w.ordered ∙ ap (drop head) turned_back

      pub none_back : {b d : Blocks} → d ≡ b → (n : ℕ) (o : Option ℕ) → is_some o ≡ false → FirstIn (kept b) n (spots starts.low (waiting head tail (put_mid head (tail - head) queue ys))) starts.extent o
          → Within (kept d) n (spots starts.low (take (tail - head) (drop head (put_mid head (tail - head) later zs)))) starts.extent
      none_back {b} {d} f n o none w =
          subst (λ ts. Within (kept d) n (spots starts.low ts) starts.extent) (sym back)
          (of_net (sym f) n (spots starts.low agenda) starts.extent None (none_of (kept b) n (spots starts.low agenda) starts.extent o none (first_here (kept b) n o w)))
