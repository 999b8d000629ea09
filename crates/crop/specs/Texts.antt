-- Texts with 1 in place of each wide extent.
use Rattle.std.specs.Prelude.{◌≡◌, ◌≤◌, ℕ, List, length}
use Rattle.tree.specs.declared.token.token.Lexeme.{Lexeme}
use Rattle.tree.specs.Token.Lexical.{AreLexemes, max_text}
use Rattle.crop.specs.Narrow.{narrow_text}

-- the text with 1 for each wide extent; all other bytes are the same and stay where they are
pub record IsNarrow (text narrow : List ℕ) : Type 0 where
  pub lexemes : List Lexeme
  pub tokens : AreLexemes text lexemes
  pub only : (others : List Lexeme) → AreLexemes text others → others ≡ lexemes
  pub is : narrow ≡ narrow_text text lexemes
  pub short : length narrow ≤ max_text
