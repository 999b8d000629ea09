-- Reading a line without a look at what stands between its words: each text gives some line, and the text of a line that
-- fits gives that line.
use Rattle.std.specs.Prelude.{ℕ, if◌then◌else◌, List, drop}
use Rattle.spelling.specs.Words.Reading.{count_from, symbol_from, name_from, span_from, region_from, begins}
use Rattle.spelling.specs.Sizes.Sizes.{size_from}
use Rattle.plan.specs.declared.certificate.cert.Own.{Own}
use Rattle.plan.specs.declared.certificate.cert.Need.{Need}
use Rattle.plan.specs.declared.certificate.cert.Window.{Window}
use Rattle.plan.specs.Certificate.Certificate.{Claim}
use Rattle.cert.specs.Lines.{Line, Head, OwnLine, NeedLine, ClaimLine, WindowLine, End}

unfoldable pub own_from : List ℕ → Own
own_from text =
    let group = size_from (drop 4 text) in
    let region = region_from (drop 1 group.1) in
    record { group = group.0; region = region.0 }

unfoldable pub need_from : List ℕ → Need
need_from text =
    let group = size_from (drop 5 text) in
    let needed = size_from (drop 1 group.1) in
    let region = region_from (drop 1 needed.1) in
    record { group = group.0; needed = needed.0; region = region.0 }

-- the number of a claim, and what follows it
abbrev pub number_from : List ℕ → ℕ × List ℕ
number_from text = count_from (drop 6 text)

-- a claim without its number
unfoldable pub claim_from : List ℕ → Claim
claim_from text =
    let line = size_from (drop 1 text) in
    let buffer = size_from (drop 2 line.1) in
    let function = name_from (drop 1 buffer.1) in
    let definition = size_from (drop 1 function.1) in
    let region = region_from (drop 1 definition.1) in
    record { line = line.0; buffer = buffer.0; function = function.0; definition = definition.0; region = region.0 }

unfoldable pub window_from : List ℕ → Window
window_from text =
    let claim = size_from (drop 7 text) in
    let symbol = symbol_from (drop 1 claim.1) in
    let dimension = size_from (drop 1 symbol.1) in
    let fold = size_from (drop 1 dimension.1) in
    let span = span_from (drop 1 fold.1) in
    record { claim = claim.0; symbol = symbol.0; dimension = dimension.0; fold = fold.0; span = span.0 }

-- the first bytes decide
abbrev pub line_from : List ℕ → Line
line_from text =
    if begins 111 text then OwnLine (own_from text)
    else (if begins 110 text then NeedLine (need_from text)
    else (if begins 119 text then WindowLine (window_from text)
    else (if begins 101 text then End
    else (if begins 108 (drop 1 text) then ClaimLine (number_from text).0 (claim_from (number_from text).1)
    else Head))))
