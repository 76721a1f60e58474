-- Text written over a part of a buffer.
use Rattle.std.specs.Prelude.{ℕ, ◌+◌, List, ◌++◌, length, take, drop}

-- a buffer with text written over it from a place on
unfoldable pub pasted : List ℕ → ℕ → List ℕ → List ℕ
pasted text at buffer = take at buffer ++ (text ++ drop (at + length text) buffer)
