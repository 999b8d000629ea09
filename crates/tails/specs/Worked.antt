-- Split loops written out: what they reach, and what they do not.
use Rattle.std.specs.Prelude.{◌≡◌, ℕ, ◌==◌, Bool, if◌then◌else◌, map, true, false, List, [], ◌∷◌, ◌++◌, Some, None, ℤ, pos, negsuc, codes}
use Rattle.std.specs.List.{range_with_len}
use Rattle.lin.specs.Forms.{Form, number}
use Rattle.lin.specs.Search.{at_most}
use Rattle.lin.specs.declared.scope.Binding.{Binding}
use Rattle.lin.specs.declared.scope.Binding.TheVariants.{Loop, LetMin, LetMax}
use Rattle.lin.specs.declared.span.Span1.{Span1}
use Rattle.numeric.specs.declared.ty.Ty.TheVariants.{U8}
use Rattle.tree.specs.Term.{Number}
use Rattle.plan.specs.declared.stmt.Kind.TheVariants.{Serial}
use Rattle.plan.specs.declared.stmt.Pick.{Pick}
use Rattle.plan.specs.declared.stmt.Pick.TheVariants.{Min, Max}
use Rattle.plan.specs.declared.stmt.Places.{Places}
use Rattle.plan.specs.declared.stmt.Places.TheVariants.{From, Folded}
use Rattle.plan.specs.Plan.{Statement, For, Let, Guard, Store, Seq, block}
use Rattle.plan.specs.Semantics.Worked.{plus, symbol, constants, is, loop}
use Rattle.plan.specs.Semantics.Run.{Input}
use Rattle.plan.specs.Certificate.Certificate.{Claim}
use Rattle.soundness.specs.Origins.{Outline}
use Rattle.soundness.specs.Obligations.{Binder, Ranged, Picked, Passed, Rules, anything}
use Rattle.tails.specs.Steps.{Step, Turns, Named, Tested, spine_of}
use Rattle.tails.specs.Maps.{covers, is_once}
use Rattle.tails.specs.Nests.{split_nests}

-- ---- bounds, with those of lets

abbrev pub binding_of : List Binder → ℕ → Binding
binding_of [] i = Loop anything
binding_of (Ranged j x ∷ bs) i = if j == i then Loop x else binding_of bs i
binding_of (Picked j Min ls ∷ bs) i = if j == i then LetMin ls else binding_of bs i
binding_of (Picked j Max ls ∷ bs) i = if j == i then LetMax ls else binding_of bs i
binding_of (Passed low high ∷ bs) i = binding_of bs i

-- of the first eight symbols
abbrev pub bounds_alone : Rules
bounds_alone = record {
  claim_line = λ c. 0;
  window_line = λ c. 0;
  last = λ f. 0;
  extents = [];
  own = [];
  at_most = λ bs a b. at_most (map (binding_of bs) (range_with_len 0 8)) a b;
  interval = λ bs names vars e. anything;
}

-- ---- forms

-- a constant and multiples of two symbols
abbrev pub over_two : ℤ → ℤ → ℕ → ℤ → ℕ → Form
over_two c k i n j = record { constant = c; terms = record { symbol = i; factor = k } ∷ record { symbol = j; factor = n } ∷ [] }

abbrev pub spans : List Form → List Form → Span1
spans ls us = record { lower = ls; upper = us }

abbrev pub turns_over : ℕ → Span1 → Step
turns_over i x = Turns i x Serial

abbrev pub four : ℤ
four = pos 4

-- ---- ten numbers split by four, in one piece

-- a guard as an upper form of the inner loop
abbrev pub guarded : Span1 → Span1 → List Step
guarded outer inner = turns_over 1 outer ∷ turns_over 2 inner ∷ []

abbrev pub guarded_form : Form
guarded_form = over_two (pos 0) (pos 4) 1 (pos 1) 2

-- `last-4*s1`
abbrev pub less_four : ℤ → Form
less_four last = plus last (negsuc 3) 1

-- the inner loop outside
abbrev pub swapped : ℤ → ℤ → List Step
swapped guard last =
    turns_over 1 (constants (pos 0) (pos 3)) ∷ turns_over 2 (constants (pos 0) (pos 2))
    ∷ Tested (over_two (pos 0) (pos 1) 1 (pos 4) 2) (number guard) ∷ Named 3 Min (over_two (pos 0) (pos 1) 1 (pos 4) 2 ∷ number last ∷ []) ∷ []

-- the last block moved back
abbrev pub shifted : Step → Span1 → List Step
shifted start inner = turns_over 1 (constants (pos 0) (pos 2)) ∷ start ∷ turns_over 3 inner ∷ []

-- the same with the inner loop outside
abbrev pub shifted_outside : List Step
shifted_outside = turns_over 1 (constants (pos 0) (pos 3)) ∷ turns_over 2 (constants (pos 0) (pos 2)) ∷ Named 3 Min (plus (pos 0) (pos 4) 2 ∷ number (pos 6) ∷ []) ∷ []

abbrev pub start_at : List Form → Step
start_at fs = Named 2 Min fs

abbrev pub start_form : Form
start_form = over_two (pos 0) (pos 1) 2 (pos 1) 3

abbrev pub none : List Binder
none = []

abbrev pub whole : ℤ → ℤ → List Span1
whole low high = constants low high ∷ []

abbrev pub reaches : List Step → Form → ℤ → ℤ → Type 0
reaches steps f low high = covers bounds_alone none steps (f ∷ []) (whole low high) ≡ true

abbrev pub fails : List Step → Form → ℤ → ℤ → Type 0
fails steps f low high = covers bounds_alone none steps (f ∷ []) (whole low high) ≡ false

pub record TenIsCut : Type 0 where
  -- by a guard: the numbers from 0 to 9 and no more
  pub guard : reaches (guarded (constants (pos 0) (pos 2)) (spans (number (pos 0) ∷ []) (number (pos 3) ∷ less_four (pos 9) ∷ []))) guarded_form (pos 0) (pos 9)
  pub guard_once : is_once (guarded (constants (pos 0) (pos 2)) (spans (number (pos 0) ∷ []) (number (pos 3) ∷ less_four (pos 9) ∷ []))) (guarded_form ∷ []) ≡ true
  pub not_eleven : fails (guarded (constants (pos 0) (pos 2)) (spans (number (pos 0) ∷ []) (number (pos 3) ∷ less_four (pos 9) ∷ []))) guarded_form (pos 0) (pos 10)
  -- a gap between blocks, a block too few, and a tail that ends too early
  pub gap : fails (guarded (constants (pos 0) (pos 2)) (spans (number (pos 0) ∷ []) (number (pos 2) ∷ less_four (pos 9) ∷ []))) guarded_form (pos 0) (pos 9)
  pub too_few : fails (guarded (constants (pos 0) (pos 1)) (spans (number (pos 0) ∷ []) (number (pos 3) ∷ less_four (pos 9) ∷ []))) guarded_form (pos 0) (pos 9)
  pub too_early : fails (guarded (constants (pos 0) (pos 2)) (spans (number (pos 0) ∷ []) (number (pos 3) ∷ less_four (pos 8) ∷ []))) guarded_form (pos 0) (pos 9)
  -- blocks that overlap cover, and meet numbers twice
  pub overlap : reaches (guarded (constants (pos 0) (pos 2)) (spans (number (pos 0) ∷ []) (number (pos 4) ∷ less_four (pos 9) ∷ []))) guarded_form (pos 0) (pos 9)
  pub twice : is_once (guarded (constants (pos 0) (pos 2)) (spans (number (pos 0) ∷ []) (number (pos 4) ∷ less_four (pos 9) ∷ []))) (guarded_form ∷ []) ≡ false
  -- to a whole multiple
  pub roundup : reaches (guarded (constants (pos 0) (pos 2)) (constants (pos 0) (pos 3))) guarded_form (pos 0) (pos 11)
  pub roundup_once : is_once (guarded (constants (pos 0) (pos 2)) (constants (pos 0) (pos 3))) (guarded_form ∷ []) ≡ true
  -- a loop without a turn reaches nothing: from 0 to -1 and four more would be 0 to 3 - 4
  pub no_turn : fails (guarded (constants (pos 1) (pos 0)) (constants (pos 0) (pos 7))) guarded_form (pos 4) (pos 4)
  -- the last block moved back: points are met twice
  pub shift : reaches (shifted (start_at (plus (pos 0) (pos 4) 1 ∷ number (pos 6) ∷ [])) (constants (pos 0) (pos 3))) start_form (pos 0) (pos 9)
  pub shift_twice : is_once (shifted (start_at (plus (pos 0) (pos 4) 1 ∷ number (pos 6) ∷ [])) (constants (pos 0) (pos 3))) (start_form ∷ []) ≡ false
  pub shift_more : reaches (shifted (start_at (plus (pos 0) (pos 4) 1 ∷ number (pos 7) ∷ [])) (constants (pos 0) (pos 3))) start_form (pos 0) (pos 9)
  pub shift_too_far : fails (shifted (start_at (plus (pos 0) (pos 4) 1 ∷ number (pos 5) ∷ [])) (constants (pos 0) (pos 3))) start_form (pos 0) (pos 9)
  pub shift_by_largest : fails (shifted (Named 2 Max (plus (pos 0) (pos 4) 1 ∷ number (pos 6) ∷ [])) (constants (pos 0) (pos 3))) start_form (pos 0) (pos 9)
  pub shift_gap : fails (shifted (start_at (plus (pos 0) (pos 4) 1 ∷ number (pos 6) ∷ [])) (constants (pos 0) (pos 2))) start_form (pos 0) (pos 9)
  pub shift_other_order : fails (shifted (start_at (number (pos 6) ∷ plus (pos 0) (pos 4) 1 ∷ [])) (constants (pos 0) (pos 3))) start_form (pos 0) (pos 9)
  pub shift_outside : reaches shifted_outside (over_two (pos 0) (pos 1) 1 (pos 1) 3) (pos 0) (pos 9)
  -- the inner loop outside, with its guard and let
  pub inner_outside : reaches (swapped (pos 9) (pos 9)) (symbol 3) (pos 0) (pos 9)
  pub inner_outside_once : is_once (swapped (pos 9) (pos 9)) (symbol 3 ∷ []) ≡ true
  pub guard_too_small : fails (swapped (pos 8) (pos 9)) (symbol 3) (pos 0) (pos 9)
  pub let_too_small : fails (swapped (pos 9) (pos 8)) (symbol 3) (pos 0) (pos 9)
  pub guard_is_wide : reaches (swapped (pos 11) (pos 9)) (symbol 3) (pos 0) (pos 9)
  -- a loop that no coordinate names, and a guard that bounds none
  pub unused_loop : fails (turns_over 4 (constants (pos 0) (pos 1)) ∷ guarded (constants (pos 0) (pos 2)) (constants (pos 0) (pos 3))) guarded_form (pos 0) (pos 9)
  pub unused_loop_twice : is_once (turns_over 4 (constants (pos 0) (pos 1)) ∷ guarded (constants (pos 0) (pos 2)) (constants (pos 0) (pos 3))) (guarded_form ∷ []) ≡ false
  pub unused_guard : fails (turns_over 1 (constants (pos 0) (pos 2)) ∷ Tested (plus (pos 0) (pos 2) 1) (number (pos 3)) ∷ turns_over 2 (constants (pos 0) (pos 3)) ∷ []) guarded_form (pos 0) (pos 9)

-- ---- blocks of one number

abbrev pub ones : List Step
ones = turns_over 1 (constants (pos 0) (pos 2)) ∷ turns_over 2 (constants (pos 0) (pos 0)) ∷ []

-- the loop of one turn outside
abbrev pub ones_outside : List Step
ones_outside = turns_over 1 (constants (pos 0) (pos 0)) ∷ turns_over 2 (constants (pos 0) (pos 2)) ∷ []

abbrev pub ones_form : Form
ones_form = over_two (pos 0) (pos 1) 1 (pos 1) 2

-- a block cut again: by three, the rest left out
abbrev pub nested : List Step
nested = turns_over 1 (constants (pos 0) (pos 2)) ∷ turns_over 2 (constants (pos 0) (pos 1))
    ∷ turns_over 3 (spans (number (pos 0) ∷ []) (number (pos 2) ∷ plus (pos 3) (negsuc 2) 2 ∷ record { constant = pos 9; terms = record { symbol = 1; factor = negsuc 3 } ∷ record { symbol = 2; factor = negsuc 2 } ∷ [] } ∷ [])) ∷ []

abbrev pub nested_form : Form
nested_form = record { constant = pos 0; terms = record { symbol = 1; factor = pos 4 } ∷ record { symbol = 2; factor = pos 3 } ∷ record { symbol = 3; factor = pos 1 } ∷ [] }

pub record CutsAreNested : Type 0 where
  pub ones_cover : reaches ones ones_form (pos 0) (pos 2)
  pub ones_once : is_once ones (ones_form ∷ []) ≡ true
  pub ones_outside_once : is_once ones_outside (ones_form ∷ []) ≡ true
  pub twice_cut : reaches nested nested_form (pos 0) (pos 9)

-- ---- pieces

-- a tile of an output of six by five, the piece at s0, s1
abbrev pub tile_binders : List Binder
tile_binders = Ranged 1 (constants (pos 0) (pos 2)) ∷ Ranged 0 (constants (pos 0) (pos 1)) ∷ []

abbrev pub tile_region : List Span1
tile_region = spans (plus (pos 0) (pos 4) 0 ∷ []) (plus (pos 3) (pos 4) 0 ∷ number (pos 5) ∷ []) ∷ spans (plus (pos 0) (pos 2) 1 ∷ []) (plus (pos 1) (pos 2) 1 ∷ number (pos 4) ∷ []) ∷ []

abbrev pub tile_guard : List Step
tile_guard = turns_over 2 (spans (number (pos 0) ∷ []) (number (pos 1) ∷ plus (pos 4) (negsuc 1) 1 ∷ [])) ∷ turns_over 3 (spans (number (pos 0) ∷ []) (number (pos 3) ∷ plus (pos 5) (negsuc 3) 0 ∷ [])) ∷ []

abbrev pub tile_forms : List Form
tile_forms = over_two (pos 0) (pos 4) 0 (pos 1) 3 ∷ over_two (pos 0) (pos 2) 1 (pos 1) 2 ∷ []

abbrev pub tile_round : List Step
tile_round = turns_over 2 (constants (pos 0) (pos 1)) ∷ turns_over 3 (constants (pos 0) (pos 3)) ∷ []

abbrev pub shift_binders : ℤ → List Binder
shift_binders x = Picked 3 Min (plus (pos 0) (pos 2) 1 ∷ number (pos 3) ∷ []) ∷ Picked 2 Min (plus (pos 0) (pos 4) 0 ∷ number x ∷ []) ∷ tile_binders

abbrev pub tile_shift : List Step
tile_shift = turns_over 4 (constants (pos 0) (pos 1)) ∷ turns_over 5 (constants (pos 0) (pos 3)) ∷ []

abbrev pub shift_forms : List Form
shift_forms = over_two (pos 0) (pos 1) 2 (pos 1) 5 ∷ over_two (pos 0) (pos 1) 3 (pos 1) 4 ∷ []

-- the loops of a tile in a plan, with another function's nest and a let for it before them
abbrev pub tile_store : Statement
tile_store = Store 0 0 (is (codes "x") (over_two (pos 0) (pos 4) 0 (pos 1) 3) ∷ is (codes "y") (over_two (pos 0) (pos 2) 1 (pos 1) 2) ∷ []) (Number U8 (pos 7))

abbrev pub tile_nest : List Statement → Statement
tile_nest before = For 2 (constants (pos 0) (pos 1)) Serial (Seq (block (before ++ loop 3 (constants (pos 0) (pos 3)) (tile_store ∷ []) ∷ [])))

abbrev pub other_nest : Statement
other_nest = loop 6 (constants (pos 0) (pos 1)) (Store 1 0 (is (codes "x") (symbol 6) ∷ []) (Number U8 (pos 7)) ∷ [])

abbrev pub let_before : Statement
let_before = Let 5 Min (symbol 2 ∷ number (pos 3) ∷ [])

abbrev pub guarded_nest : Statement
guarded_nest = Guard (symbol 0) (number (pos 1)) (tile_nest [])

pub record TilesAreCut : Type 0 where
  pub guard : covers bounds_alone tile_binders tile_guard tile_forms tile_region ≡ true
  pub guard_once : is_once tile_guard tile_forms ≡ true
  pub roundup : covers bounds_alone tile_binders tile_round tile_forms tile_region ≡ true
  -- the block's beginning is a let around the steps: its members are asked, each with an end of the region
  pub shift : covers bounds_alone (shift_binders (pos 2)) tile_shift shift_forms tile_region ≡ true
  pub shift_once : is_once tile_shift shift_forms ≡ true
  pub shift_too_far : covers bounds_alone (shift_binders (pos 1)) tile_shift shift_forms tile_region ≡ false
  -- each coordinate has its own loops
  pub exchanged : covers bounds_alone tile_binders tile_round (over_two (pos 0) (pos 4) 0 (pos 1) 2 ∷ over_two (pos 0) (pos 2) 1 (pos 1) 3 ∷ []) tile_region ≡ false
  pub diagonal : covers bounds_alone [] (turns_over 2 (constants (pos 0) (pos 3)) ∷ []) (symbol 2 ∷ symbol 2 ∷ []) (constants (pos 0) (pos 3) ∷ constants (pos 0) (pos 3) ∷ []) ≡ false
  -- the way down to the store
  pub spine : spine_of (tile_nest (other_nest ∷ [])) 0 ≡ Some (record { steps = tile_round; line = tile_store })
  pub with_let : spine_of (tile_nest (let_before ∷ [])) 0 ≡ Some (record { steps = turns_over 2 (constants (pos 0) (pos 1)) ∷ Named 5 Min (symbol 2 ∷ number (pos 3) ∷ []) ∷ turns_over 3 (constants (pos 0) (pos 3)) ∷ []; line = tile_store })
  pub let_is_dropped : covers bounds_alone tile_binders (turns_over 2 (constants (pos 0) (pos 1)) ∷ Named 5 Min (symbol 2 ∷ number (pos 3) ∷ []) ∷ turns_over 3 (constants (pos 0) (pos 3)) ∷ []) tile_forms tile_region ≡ true
  pub with_guard : spine_of guarded_nest 0 ≡ Some (record { steps = Tested (symbol 0) (number (pos 1)) ∷ tile_round; line = tile_store })
  pub guard_is_shown : covers bounds_alone tile_binders (Tested (symbol 0) (number (pos 1)) ∷ tile_round) tile_forms tile_region ≡ true
  pub guard_is_not_shown : covers bounds_alone tile_binders (Tested (symbol 0) (number (pos 0)) ∷ tile_round) tile_forms tile_region ≡ false
  pub twice_stored : spine_of (tile_nest (tile_store ∷ [])) 0 ≡ None

-- ---- claims

abbrev pub out_claim : List Span1 → Claim
out_claim region = record { line = 10; buffer = 0; function = codes "out"; definition = 0; region = region }

abbrev pub out_outline : ℕ → List Span1 → Outline
out_outline n region = record {
  setting = record { group_function = λ h. codes "out"; buffer_function = λ b. codes "out"; dimensions = λ b. n; own = λ s. [] };
  source = λ name. Input;
  claim = λ c. out_claim region;
  named = λ line. [];
  windows = [];
}

-- the statement makes a claim of a function of so many dimensions, in a buffer of these places
abbrev pub is_made : ℕ → List Binder → List Places → List Span1 → Statement → Bool
is_made n bs places region a = (split_nests (out_outline n region) bounds_alone (λ f k. None)).is_made bs 0 None places a

abbrev pub store_x : Form → Statement
store_x f = Store 0 0 (is (codes "x") f ∷ []) (Number U8 (pos 7))

abbrev pub ten_places : List Places
ten_places = From (number (pos 0)) 10 ∷ []

-- ten numbers in one piece: `for s1 0:2`, `for s2` over its span
abbrev pub guard_nest : ℤ → Span1 → Statement
guard_nest blocks inner = loop 1 (constants (pos 0) blocks) (loop 2 inner (store_x guarded_form ∷ []) ∷ [])

abbrev pub guard_span : ℤ → ℤ → Span1
guard_span last end = spans (number (pos 0) ∷ []) (number last ∷ less_four end ∷ [])

-- the inner loop outside: a guard and a let before the store
abbrev pub swapped_nest : ℤ → ℤ → Statement
swapped_nest guard last =
    loop 1 (constants (pos 0) (pos 3))
    (loop 2 (constants (pos 0) (pos 2))
    (Guard (over_two (pos 0) (pos 1) 1 (pos 4) 2) (number guard) (Seq (block (Let 3 Min (over_two (pos 0) (pos 1) 1 (pos 4) 2 ∷ number last ∷ []) ∷ store_x (symbol 3) ∷ []))) ∷ []) ∷ [])

-- three pieces, the last block moved back: the let stands at the group's beginning
abbrev pub piece_binders : Pick → ℤ → List Binder
piece_binders pick last = Picked 1 pick (plus (pos 0) (pos 4) 0 ∷ number last ∷ []) ∷ Ranged 0 (constants (pos 0) (pos 2)) ∷ []

abbrev pub piece_nest : ℤ → Statement
piece_nest last = loop 2 (constants (pos 0) last) (store_x (over_two (pos 0) (pos 1) 1 (pos 1) 2) ∷ [])

abbrev pub piece_region : List Form → List Span1
piece_region ends = spans (plus (pos 0) (pos 4) 0 ∷ []) ends ∷ []

abbrev pub block_ends : List Form
block_ends = plus (pos 3) (pos 4) 0 ∷ number (pos 9) ∷ []

abbrev pub is_shifted : Pick → ℤ → ℤ → List Form → Bool
is_shifted pick start last ends = is_made 1 (piece_binders pick start) (From (symbol 1) 4 ∷ []) (piece_region ends) (piece_nest last)

abbrev pub round_nest : Statement
round_nest = loop 1 (constants (pos 0) (pos 3)) (store_x (over_two (pos 0) (pos 4) 0 (pos 1) 1) ∷ [])

pub record ClaimsAreMade : Type 0 where
  pub guard : is_made 1 [] ten_places (whole (pos 0) (pos 9)) (guard_nest (pos 2) (guard_span (pos 3) (pos 9))) ≡ true
  pub guard_wide : is_made 1 [] ten_places (whole (pos 0) (pos 9)) (guard_nest (pos 2) (guard_span (pos 4) (pos 9))) ≡ true
  pub guard_early : is_made 1 [] ten_places (whole (pos 0) (pos 9)) (guard_nest (pos 2) (guard_span (pos 3) (pos 8))) ≡ false
  pub guard_few : is_made 1 [] ten_places (whole (pos 0) (pos 9)) (guard_nest (pos 1) (guard_span (pos 3) (pos 9))) ≡ false
  pub guard_gap : is_made 1 [] ten_places (whole (pos 0) (pos 9)) (guard_nest (pos 2) (guard_span (pos 2) (pos 9))) ≡ false
  -- the claim is wider than what is stored, and the last number has no place
  pub wider : is_made 1 [] (From (number (pos 0)) 11 ∷ []) (whole (pos 0) (pos 10)) (guard_nest (pos 2) (guard_span (pos 3) (pos 9))) ≡ false
  pub no_place : is_made 1 [] (From (number (pos 0)) 9 ∷ []) (whole (pos 0) (pos 8)) (guard_nest (pos 2) (guard_span (pos 3) (pos 9))) ≡ false
  pub folded : is_made 1 [] (Folded 10 ∷ []) (whole (pos 0) (pos 9)) (guard_nest (pos 2) (guard_span (pos 3) (pos 9))) ≡ false
  pub swapped : is_made 1 [] ten_places (whole (pos 0) (pos 9)) (swapped_nest (pos 9) (pos 9)) ≡ true
  pub swapped_small : is_made 1 [] ten_places (whole (pos 0) (pos 9)) (swapped_nest (pos 8) (pos 9)) ≡ false
  pub swapped_let : is_made 1 [] ten_places (whole (pos 0) (pos 9)) (swapped_nest (pos 9) (pos 8)) ≡ false
  pub swapped_wide : is_made 1 [] ten_places (whole (pos 0) (pos 9)) (swapped_nest (pos 11) (pos 9)) ≡ true
  pub shift : is_shifted Min (pos 6) (pos 3) block_ends ≡ true
  pub shift_more : is_shifted Min (pos 7) (pos 3) block_ends ≡ true
  pub shift_less : is_shifted Min (pos 5) (pos 3) block_ends ≡ false
  pub shift_largest : is_shifted Max (pos 6) (pos 3) block_ends ≡ false
  pub shift_gap : is_shifted Min (pos 6) (pos 2) block_ends ≡ false
  pub shift_whole : is_shifted Min (pos 6) (pos 3) (plus (pos 3) (pos 4) 0 ∷ []) ≡ false
  pub roundup : is_made 1 (Ranged 0 (constants (pos 0) (pos 2)) ∷ []) (From (plus (pos 0) (pos 4) 0) 4 ∷ []) (piece_region (plus (pos 3) (pos 4) 0 ∷ [])) round_nest ≡ true
  -- a plain nest
  pub plain : is_made 1 [] ten_places (whole (pos 0) (pos 9)) (loop 1 (constants (pos 0) (pos 9)) (store_x (symbol 1) ∷ [])) ≡ true
  -- a coordinate that no loop of the nest binds
  pub no_loop : is_made 1 (Ranged 0 (constants (pos 0) (pos 9)) ∷ []) (From (symbol 0) 1 ∷ []) (spans (symbol 0 ∷ []) (symbol 0 ∷ []) ∷ []) (store_x (symbol 0)) ≡ true
