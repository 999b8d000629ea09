-- What is wrong with the lines of a certificate by names, limits and lists of forms.
use Rattle.std.specs.Prelude.{ℕ, ◌+◌, ◌==◌, nat_le, nat_lt, Bool, false, ◌&&◌, ◌||◌, not, List, [], ◌∷◌, ◌++◌, length, take, Option, Some, None, slice_get}
use Rattle.std.specs.List.{list_all, list_any, range_with_len}
use Rattle.lin.specs.declared.span.Span1.{Span1}
use Rattle.meaning.specs.Algorithm.{Function, Algorithm}
use Rattle.meaning.specs.Names.{same_name}
use Rattle.meaning.specs.Conditions.{function_named}
use Rattle.plan.specs.Plan.{Group, Plan}
use Rattle.plan.specs.Lines.{body_line, certificate_line}
use Rattle.plan.specs.declared.certificate.cert.Own.{Own}
use Rattle.plan.specs.declared.certificate.cert.Need.{Need}
use Rattle.plan.specs.declared.certificate.cert.Window.{Window}
use Rattle.plan.specs.Certificate.Certificate.{Claim, Certificate}
use Rattle.plan.specs.Certificate.Lines.{own_line, need_line, claim_line, window_line}
use Rattle.plan.specs.Semantics.Setting.{Buffer, allocated}
use Rattle.soundness.specs.Given.{outline_of}
use Rattle.soundness.specs.Outline.Kept.{keeps}
use Rattle.soundness.specs.Outline.Forms.{are_over, spans_are_over, are_within_limits, spans_are_within_limits, is_listed, have_ends, grid_symbols}
use Rattle.soundness.specs.Outline.Flaws.{Flaw, unless}
use Rattle.validation.specs.Groups.Lines.{is_one_of}
use Rattle.validation.specs.Certificate.Lines.{line_flaws, window_line_flaws, each_line}
use Rattle.validation.specs.Certificate.Placing.{Place, place_at}

-- as many spans, over these symbols
abbrev pub fits : ℕ → List ℕ → List Span1 → Bool
fits count symbols region = (length region == count) && spans_are_over symbols region

-- ---- own regions

-- one of these lines is of the group
abbrev pub is_owned : List Own → ℕ → Bool
is_owned os g = list_any (λ o. o.group == g) os

-- each of so many groups has a line
abbrev pub are_owned : List Own → ℕ → Bool
are_owned os count = list_all (is_owned os) (range_with_len 0 count)

-- a region of the group, in the symbols of the group's grid
abbrev pub is_region_of : Option Group → List Span1 → Bool
is_region_of None region = false
is_region_of (Some g) region = fits (length g.region) (grid_symbols (length g.grid)) region

-- the line is of a group that none of the earlier ones is of
abbrev pub own_is_known : List Group → List Own → Own → Bool
own_is_known groups earlier o = not (is_owned earlier o.group) && is_region_of (slice_get groups o.group) o.region

-- ---- needed regions

-- a region of the needed group's grid, in the symbols of the group's own grid
abbrev pub is_need_of : Option Group → Option Group → List Span1 → Bool
is_need_of None h region = false
is_need_of (Some g) None region = false
is_need_of (Some g) (Some h) region = fits (length h.grid) (grid_symbols (length g.grid)) region

abbrev pub need_is_known : List Group → Need → Bool
need_is_known groups n = is_need_of (slice_get groups n.group) (slice_get groups n.needed) n.region

-- ---- claims

-- the buffer is allocated, for values of the claim's function
abbrev pub is_of_buffer : Option Buffer → Claim → Bool
is_of_buffer None k = false
is_of_buffer (Some b) k = same_name b.function k.function

-- the function is known, and has the claim's definition and as many variables as the claim has spans
abbrev pub is_of_function : Option Function → Claim → Bool
is_of_function None k = false
is_of_function (Some f) k = nat_le k.definition (length f.changes) && (length k.region == length f.variables)

-- a statement ends at the claim's line, and the claim is of a buffer of that group that is in scope there, in symbols that are
-- bound there
abbrev pub is_at : Option Place → Claim → Bool
is_at None k = false
is_at (Some x) k =
    list_any (λ b. b == k.buffer) x.spot.buffers && (is_of_buffer (allocated x.group.body k.buffer) k && spans_are_over x.spot.symbols k.region)

abbrev pub claim_is_known : List Function → List Group → Claim → Bool
claim_is_known functions groups k = is_of_function (function_named functions k.function) k && is_at (place_at groups k.line) k

-- ---- windows

-- the window's symbol is that of a loop round the statement, and the window's span is in symbols that are bound there
abbrev pub is_along : Option Place → Window → Bool
is_along None w = false
is_along (Some x) w = is_one_of x.spot.loops w.symbol && (are_over x.spot.symbols w.span.lower && are_over x.spot.symbols w.span.upper)

-- the claim is known, has the window's dimension, and stands where such a statement ends
abbrev pub is_window_of : List Group → Option Claim → Window → Bool
is_window_of groups None w = false
is_window_of groups (Some k) w = nat_lt w.dimension (length k.region) && is_along (place_at groups k.line) w

abbrev pub window_is_known : List Group → List Claim → Window → Bool
window_is_known groups claims w = is_window_of groups (slice_get claims w.claim) w

-- some loop of these groups, which are the plan's from this number on, keeps the window
abbrev pub groups_keep : Plan → Certificate → Window → ℕ → List Group → Bool
groups_keep p c w n [] = false
groups_keep p c w n (g ∷ gs) = keeps (outline_of p c n g) w g.body (body_line p n) || groups_keep p c w (n + 1) gs

-- no earlier window is of its claim, and some loop keeps it
abbrev pub is_used : Plan → Certificate → List Window → Window → Bool
is_used p c earlier w = not (list_any (λ v. v.claim == w.claim) earlier) && groups_keep p c w 0 p.groups

-- its forms are within the limits, and there are one to four at each end
abbrev pub span_is_within_limits : Span1 → Bool
span_is_within_limits x = are_within_limits x.lower && are_within_limits x.upper

abbrev pub has_ends : Span1 → Bool
has_ends x = is_listed x.lower && is_listed x.upper

-- ---- the certificate

-- K10 at the line `cert`, where a group has no own region
abbrev pub cert_flaws : Plan → Certificate → List Flaw
cert_flaws p c = unless (are_owned c.own (length p.groups)) 10 (certificate_line p)

-- what is wrong with the line of an own region, of a needed region, of a claim, of which there are 4096 at most
abbrev pub own_flaws : Plan → Certificate → ℕ → Own → List Flaw
own_flaws p c i o = line_flaws (own_is_known p.groups (take i c.own) o) (spans_are_within_limits o.region) (have_ends o.region) (own_line (certificate_line p) i)

abbrev pub need_flaws : Plan → Certificate → ℕ → Need → List Flaw
need_flaws p c i n = line_flaws (need_is_known p.groups n) (spans_are_within_limits n.region) (have_ends n.region) (need_line c (certificate_line p) i)

abbrev pub claim_flaws : Algorithm → Plan → Certificate → ℕ → Claim → List Flaw
claim_flaws a p c i k = line_flaws (claim_is_known a.functions p.groups k) (spans_are_within_limits k.region) (have_ends k.region && nat_lt i 4096) (claim_line c (certificate_line p) i)

-- what is wrong with the line of a window
abbrev pub window_flaws : Plan → Certificate → ℕ → Window → List Flaw
window_flaws p c i w =
    window_line_flaws (window_is_known p.groups c.claims w) (span_is_within_limits w.span) (is_used p c (take i c.windows) w) (has_ends w.span)
    (window_line c (certificate_line p) i)

-- of the line `cert` and the lines of own and needed regions, in the order of lines, and at one line the lowest code first
abbrev pub flaws_of_regions : Plan → Certificate → List Flaw
flaws_of_regions p c = cert_flaws p c ++ (each_line (own_flaws p c) 0 c.own ++ each_line (need_flaws p c) 0 c.needs)

-- of the lines of claims and windows behind them
abbrev pub flaws_of_claims : Algorithm → Plan → Certificate → List Flaw
flaws_of_claims a p c = each_line (claim_flaws a p c) 0 c.claims ++ each_line (window_flaws p c) 0 c.windows

-- of all lines
abbrev pub flaws_of_certificate : Algorithm → Plan → Certificate → List Flaw
flaws_of_certificate a p c = flaws_of_regions p c ++ flaws_of_claims a p c
