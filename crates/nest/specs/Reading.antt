-- Reading a line without a look at what stands between its parts: each text gives some line, and the text of a line that
-- fits gives that line.
use Rattle.std.specs.Prelude.{ℕ, zero, suc, Bool, ◌==◌, ◌&&◌, if◌then◌else◌, List, [], ◌∷◌, ◌++◌, length, drop}
use Rattle.std.specs.List.{list_any}
use Rattle.plan.specs.declared.stmt.Kind.{Kind}
use Rattle.plan.specs.declared.stmt.Kind.TheVariants as kind
use Rattle.plan.specs.declared.stmt.Pick.{Pick}
use Rattle.plan.specs.declared.stmt.Pick.TheVariants as pick
use Rattle.plan.specs.declared.stmt.Places.{Places}
use Rattle.plan.specs.declared.stmt.Places.TheVariants as places
use Rattle.plan.specs.Plan.{Declaration, Index, At, Found, Coordinate}
use Rattle.spelling.specs.Words.Reading.{begins, count_from, symbol_from, form_from, forms_from, span_from, region_from, name_from, type_from, separated_from, bracketed_from}
use Rattle.spelling.specs.Sizes.Sizes.{size_from, sizes_from}
use Rattle.spelling.specs.Terms.Reading as terms
use Rattle.nest.specs.Blocks.Line.{Line, PlanLine, InputLine, OutputLine, GroupLine, ForLine, LetLine, FirstLine, ElseLine, GuardLine, EndLine, AllocLine, FetchLine, StoreLine, PublishLine}

-- by the first letter
abbrev pub kind_of : List ℕ → Kind
kind_of text = if begins 115 text then kind.Serial else (if begins 117 text then kind.Unroll else kind.Vector)

-- by the second letter
abbrev pub pick_of : List ℕ → Pick
pick_of text = if begins 105 (drop 1 text) then pick.Min else pick.Max

unfoldable pub declaration_from : List ℕ → Declaration
declaration_from text =
    let name = name_from text in
    let ty = type_from (drop 1 name.1) in
    record { name = name.0; ty = ty.0; extents = (sizes_from (drop 1 ty.1)).0 }

unfoldable pub place_from : List ℕ → Places × List ℕ
place_from text =
    if begins 37 text
    then (let count = size_from (drop 1 text) in (places.Folded count.0, count.1))
    else (let origin = form_from text in
    let count = size_from (drop 1 origin.1) in
    (places.From origin.0 count.0, count.1))

unfoldable pub places_from : List ℕ → List Places × List ℕ
places_from text = bracketed_from 59 place_from text

unfoldable pub index_from : List ℕ → Index × List ℕ
index_from text =
    if begins 61 text
    then (let form = form_from (drop 1 text) in (At form.0, form.1))
    else (let term = terms.term_from (drop 1 text) in (Found term.0, term.1))

unfoldable pub coordinate_from : List ℕ → Coordinate × List ℕ
coordinate_from text =
    let variable = name_from text in
    let index = index_from variable.1 in
    (record { variable = variable.0; index = index.0 }, index.1)

-- a word stands before the last one
abbrev pub has_blank : List ℕ → Bool
has_blank text = list_any (λ b. b == 32) text

-- a coordinate stands at the front: a blank follows what is read of one
abbrev pub has_coordinate : List ℕ → Bool
has_coordinate text = has_blank text && begins 32 (coordinate_from text).1

-- the coordinates before the last word; the number bounds them
unfoldable pub coordinates_from : ℕ → List Coordinate → List ℕ → List Coordinate × List ℕ
coordinates_from zero found text = (found, text)
coordinates_from (suc most) found text =
    if has_coordinate text then coordinates_from most (found ++ (coordinate_from text).0 ∷ []) (drop 1 (coordinate_from text).1) else (found, text)

unfoldable pub group_from : List ℕ → Line
group_from text =
    let n = count_from text in
    let f = name_from (drop 1 n.1) in
    let region = region_from (drop 1 f.1) in
    let grid = drop 6 region.1 in
    GroupLine n.0 f.0 region.0 (separated_from 32 size_from (length grid) [] grid).0

unfoldable pub for_from : List ℕ → Line
for_from text =
    let i = symbol_from text in
    let span = span_from (drop 1 i.1) in
    ForLine i.0 span.0 (kind_of (drop 1 span.1))

unfoldable pub let_from : List ℕ → Line
let_from text =
    let i = symbol_from text in
    LetLine i.0 (pick_of (drop 1 i.1)) (forms_from (drop 5 i.1)).0

unfoldable pub guard_from : List ℕ → Line
guard_from text =
    let low = form_from text in
    GuardLine low.0 (form_from (drop 2 low.1)).0

unfoldable pub alloc_from : List ℕ → Line
alloc_from text =
    let b = size_from text in
    let f = name_from (drop 1 b.1) in
    AllocLine b.0 f.0 (places_from (drop 1 f.1)).0

unfoldable pub fetch_from : List ℕ → Line
fetch_from text =
    let b = size_from text in
    let g = size_from (drop 1 b.1) in
    FetchLine b.0 g.0 (region_from (drop 1 g.1)).0

unfoldable pub store_from : List ℕ → Line
store_from text =
    let b = size_from text in
    let k = size_from (drop 1 b.1) in
    let at = coordinates_from (length k.1) [] (drop 1 k.1) in
    StoreLine b.0 k.0 at.0 (terms.term_from at.1).0

-- a line that begins with `p`
abbrev pub named_from : List ℕ → Line
named_from text = if begins 108 (drop 1 text) then PlanLine (name_from (drop 7 text)).0 else PublishLine (size_from (drop 9 text)).0

-- a line that begins with `f`
abbrev pub looped_from : List ℕ → Line
looped_from text =
    if begins 111 (drop 1 text) then for_from (drop 4 text)
    else (if begins 105 (drop 1 text) then FirstLine (symbol_from (drop 6 text)).0 else fetch_from (drop 7 text))

-- the kind of a line is told by its first two letters
unfoldable pub line_from : List ℕ → Line
line_from text =
    if begins 102 text then looped_from text
    else (if begins 103 text then (if begins 114 (drop 1 text) then group_from (drop 6 text) else guard_from (drop 6 text))
    else (if begins 101 text then (if begins 108 (drop 1 text) then ElseLine else EndLine)
    else (if begins 112 text then named_from text
    else (if begins 115 text then store_from (drop 7 text)
    else (if begins 97 text then alloc_from (drop 7 text)
    else (if begins 108 text then let_from (drop 4 text)
    else (if begins 105 text then InputLine (declaration_from (drop 6 text))
    else OutputLine (declaration_from (drop 7 text)))))))))
