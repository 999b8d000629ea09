-- Windows that a loop keeps from turn to turn.
use Rattle.std.specs.Prelude.{ℕ, ◌+◌, ◌==◌, ◌&&◌, ◌||◌, not, Bool, false}
use Rattle.plan.specs.declared.certificate.cert.Window.{Window}
use Rattle.plan.specs.Plan.{Statement, Seq, For, Let, First, Guard, Alloc, Fetch, Store, Publish, Statements, Empty, Then}
use Rattle.plan.specs.Lines.{lines}
use Rattle.soundness.specs.Origins.{Outline}
use Rattle.soundness.specs.Claims.{is_update}
use Rattle.soundness.specs.Obligations.{stands_alone}

module _ (outline : Outline) (w : Window) where
  -- the window's claim is of a pure definition, and stands alone in the body of a loop that begins at the line
  abbrev pub is_alone_in : Statement → ℕ → Bool
  is_alone_in (Seq row) line = not (is_update (outline.claim w.claim).definition) && stands_alone outline w.symbol w.claim row line
  is_alone_in _ line = false

  -- some loop of the window's symbol, in a statement that begins at the line, keeps the window
  abbrev mutual
    pub keeps : Statement → ℕ → Bool
    keeps (Seq all) line = some_keep all line
    keeps (For i x kind body) line = ((i == w.symbol) && is_alone_in body (line + 1)) || keeps body (line + 1)
    keeps (Let i pick ls) line = false
    keeps (First i a b) line = keeps a (line + 1) || keeps b (line + 2 + lines a)
    keeps (Guard low high body) line = keeps body (line + 1)
    keeps (Alloc b f places) line = false
    keeps (Fetch b g region) line = false
    keeps (Store b k at e) line = false
    keeps (Publish c) line = false

    pub some_keep : Statements → ℕ → Bool
    some_keep Empty line = false
    some_keep (Then a rest) line = keeps a line || some_keep rest (line + lines a)
