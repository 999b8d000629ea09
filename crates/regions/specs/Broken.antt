-- Which rule a function breaks that is computed inside loops: over what its turns need of it, wherever it stands.
use Rattle.std.specs.Prelude.{ℕ, ◌==◌, nat_lt, ℤ, pos, int_lt, int_le, Bool, true, false, not, ◌&&◌, ◌||◌, if◌then◌else◌, List, [], ◌∷◌, Option, Some, None}
use Rattle.std.specs.List.{list_any}
use Rattle.lin.specs.Forms.{Form}
use Rattle.lin.specs.Search.{sup_of_difference}
use Rattle.lin.specs.declared.scope.Binding.{Binding}
use Rattle.lin.specs.declared.span.Span1.{Span1}
use Rattle.meaning.specs.Names.{same_name}
use Rattle.sched.specs.declared.error.Rule.{Rule}
use Rattle.sched.specs.declared.schedule.Split.{Split}
use Rattle.sched.specs.declared.numbers.Numbers.{Numbers}
use Rattle.sched.specs.Numbers.{loop_numbers, numbers_named}
use Rattle.sched.specs.Placing.{is_shifted}
use Rattle.sched.specs.Rules.{number_of}
use Rattle.sched.specs.Standing.{◌>>=◌}
use Rattle.sched.specs.Blocks.{difference}
use Rattle.regions.specs.Faults.{are_whole}
use Rattle.sched.specs.Parted.{add_extents}
use Rattle.sched.specs.Stored.{StoredText}
use Rattle.regions.specs.Stored.{is_large}
use Rattle.sched.specs.Taken.{shortest}
use Rattle.regions.specs.Uses.{is_used_outside}
use Rattle.sched.specs.Windows.{fewer}

-- ---- too few numbers for a block

-- the fewest numbers that there are in some turn from a lower form to one of these upper ones, or as many as these; None where bounds do not tell it of one of them
abbrev pub least_from : List Binding → Form → List Form → Option ℤ → Option ℤ
least_from scope low [] least = least
least_from scope low (h ∷ hs) least = sup_of_difference scope low h >>= λ most. least_from scope low hs (fewer least (Some (difference (pos 1) most)))

abbrev pub least_over : List Binding → List Form → List Form → Option ℤ → Option ℤ
least_over scope [] upper least = least
least_over scope (f ∷ fs) upper least = least_from scope f upper None >>= λ count. least_over scope fs upper (fewer least (Some count))

-- the fewest numbers that a dimension has in one turn
abbrev pub least_of : List Binding → Span1 → Option ℤ
least_of scope s = least_over scope s.lower s.upper None

-- so few, or bounds do not tell how many there are
abbrev pub is_fewer : Option ℤ → ℕ → Bool
is_fewer None n = true
is_fewer (Some count) n = int_lt count (pos n)

-- the variable's loop is split with `shift` into blocks of more numbers than some turn has; a block of one number has none too many
abbrev pub is_short_of : List ℕ → Option ℤ → Split → Bool
is_short_of x least c = is_shifted c && (nat_lt 1 c.factor && (same_name c.whole x && is_fewer least c.factor))

-- of one of these variables, over these spans
abbrev pub are_short : List Split → List Binding → List (List ℕ) → List Span1 → Bool
are_short cs scope [] ss = false
are_short cs scope (x ∷ xs) [] = false
are_short cs scope (x ∷ xs) (s ∷ ss) = list_any (is_short_of x (least_of scope s)) cs || are_short cs scope xs ss

-- the same of a loop that a split makes: with the most numbers that a turn has
abbrev pub is_short_half : List Numbers → List (List ℕ) → Split → Bool
is_short_half rs xs c = is_shifted c && (not (list_any (same_name c.whole) xs) && nat_lt (numbers_named rs c.whole).count c.factor)

-- in some turn a loop that is split with `shift` has fewer numbers than a block, over what that turn needs; None where bounds tell no extents
abbrev pub has_short_turn : StoredText → List Binding → List Span1 → Option Bool
has_short_turn g scope r =
    if are_short g.placed.cuts scope g.subject.variables r then Some true
    else (add_extents scope r [] >>= λ es. Some (list_any (is_short_half (loop_numbers g.subject.variables g.placed.cuts es) g.subject.variables) g.placed.cuts))

-- ---- where it is computed

-- one turn needs no more numbers of any dimension than a function may have
abbrev pub is_small_span : List Binding → Span1 → Bool
is_small_span scope s = elim (shortest scope s) [ Some b ↦ int_le b.1 (pos 8192) | None ↦ false ]

abbrev pub is_small : List Binding → List Span1 → Bool
is_small scope [] = true
is_small scope (s ∷ ss) = if is_small_span scope s then is_small scope ss else false

-- ---- of all functions

-- a function leaves others without regions: where a rule is broken that this one tells, it is computed at no loop that is there; or it is too large, or used outside of
-- the loop at which it is computed
abbrev pub is_home_rule : Option (Rule × List ℕ) → StoredText → Bool
is_home_rule None g = false
is_home_rule (Some e) g = number_of e.0 == 6 && same_name e.1 g.subject.name

abbrev pub leaves_some : List StoredText → Option (Rule × List ℕ) → StoredText → Bool
leaves_some gs o g = is_large g || (is_home_rule o g || is_used_outside gs g)

abbrev pub leaves_others : List StoredText → Option (Rule × List ℕ) → StoredText → Bool
leaves_others gs o g = if are_whole gs then is_large g else leaves_some gs o g
