-- What stands on a page after bytes are put on it. Assumes nothing.
--   Put   bytes were put on a page from a place on, within it, and the place after them was answered
use Rattle.std.specs.Prelude.{◌≡◌, ℕ, ◌+◌, ◌≤◌, List, length}
use Rattle.book.specs.Overlay.{laid}

pub record Put (before : List ℕ) (at : ℕ) (bs : List ℕ) (now' : List ℕ) (after : ℕ) : Type 0 where
  pub page : now' ≡ laid before at bs
  pub place : after ≡ at + length bs
  pub within : at + length bs ≤ length before
