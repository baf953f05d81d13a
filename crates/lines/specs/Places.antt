-- Bytes put at a place of a buffer: between functions.
use Rattle.std.specs.Prelude.{List, ◌≡◌, ℕ, ◌+◌, length}
use Rattle.std.proofs.lemmas.List.Edits.{sets}

-- these bytes were put at a place of a buffer, which is as it was but for them; `next` is the place after them
pub record Wrote (entry : List ℕ) (at : ℕ) (bytes exit : List ℕ) (next : ℕ) : Type 0 where
  pub place : next ≡ at + length bytes
  pub stand : exit ≡ sets entry at bytes
