-- Forms out of limits or over other symbols, and large expressions.
use Rattle.std.specs.Prelude.{◌≡◌, ℕ, ◌^◌, ◌<◌, List, length, Contains, ◌⊎◌}
use Rattle.std.specs.List.{Any}
use Rattle.std.specs.Int.RustNames.{unsigned_abs}
use Rattle.tree.specs.Term.{Term}
use Rattle.tree.specs.Tree.{node_count, depth}
use Rattle.lin.specs.Forms.{Form}
use Rattle.lin.specs.declared.span.Span1.{Span1}

-- more than 8 terms, a factor past 2^20 or a constant past 2^40
abbrev pub IsWide : Form → Type 0
IsWide form = (8 < length form.terms) ⊎ (Any (λ t. 2 ^ 20 < unsigned_abs t.factor) form.terms ⊎ (2 ^ 40 < unsigned_abs form.constant))

-- one of the forms at an end of a span, and of spans
abbrev pub SpanIsWide : Span1 → Type 0
SpanIsWide x = Any IsWide x.lower ⊎ Any IsWide x.upper

abbrev pub RegionIsWide : List Span1 → Type 0
RegionIsWide = Any SpanIsWide

-- no form, or more than four
abbrev pub IsUnlisted : List Form → Type 0
IsUnlisted forms = (length forms ≡ 0) ⊎ (4 < length forms)

-- so at an end of a span, and of spans
abbrev pub SpanIsUnlisted : Span1 → Type 0
SpanIsUnlisted x = IsUnlisted x.lower ⊎ IsUnlisted x.upper

abbrev pub RegionIsUnlisted : List Span1 → Type 0
RegionIsUnlisted = Any SpanIsUnlisted

-- the form names a symbol that is none of these
abbrev pub NamesOther : List ℕ → Form → Type 0
NamesOther symbols form = Any (λ t. ¬ Contains symbols t.symbol) form.terms

-- so at an end of a span, and of spans
abbrev pub SpanNamesOther : List ℕ → Span1 → Type 0
SpanNamesOther symbols x = Any (NamesOther symbols) x.lower ⊎ Any (NamesOther symbols) x.upper

abbrev pub RegionNamesOther : List ℕ → List Span1 → Type 0
RegionNamesOther symbols = Any (SpanNamesOther symbols)

-- more than 4096 nodes, or more than 256 on a way down
abbrev pub IsLarge : Term → Type 0
IsLarge e = (4096 < node_count e) ⊎ (256 < depth e)
