-- Tests that hold, part by part.
use Rattle.std.proofs.Common.{◌≡◌, ℕ, Bool, true, false, ◌&&◌, List, refl, sym}
use Rattle.std.specs.Str.{bytes_eq}
use Rattle.std.proofs.lemmas.Slice.Eq.{bytes_eq-Decides}
use Rattle.cert.specs.declared.line.Mark.{Mark}
use Rattle.cert.specs.Lines.{Line, mark_of}
use Rattle.cert.specs.Spelling.{line_text}
use Rattle.cert.specs.Order.{fits_line, may_follow, IsNext}

pub both : (a b : Bool) → (a && b) ≡ true → (a ≡ true) × (b ≡ true)
both true b h = (refl, h)
both false b h = absurd cc

pub record NextParts (last : Mark) (bytes : List ℕ) (line : Line) : Type 0 where
  pub fit : fits_line line ≡ true
  pub follows : may_follow last (mark_of line) ≡ true
  pub spelled : bytes ≡ line_text line

pub next_parts : (last : Mark) (bytes : List ℕ) (line : Line) → IsNext last bytes line → NextParts last bytes line
next_parts last bytes line h =
    let p = both (fits_line line && may_follow last (mark_of line)) (bytes_eq (line_text line) bytes) h in
    let q = both (fits_line line) (may_follow last (mark_of line)) p.0 in
    record { fit = q.0; follows = q.1; spelled = sym ((bytes_eq-Decides (line_text line) bytes).0 p.1) }

pub next_whole : (last : Mark) (bytes : List ℕ) (line : Line) → NextParts last bytes line → IsNext last bytes line
next_whole last bytes line p =
    let same = (bytes_eq-Decides (line_text line) bytes).1 (sym p.spelled) in
    rw (p.fit, p.follows, same) refl

pub apart : true ≡ false → ⊥
apart h = cc
