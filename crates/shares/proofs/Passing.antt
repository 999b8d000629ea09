-- The fetch lines of a plan as they are counted.
use Rattle.std.proofs.Common.{◌≡◌, ℕ, ◌+◌, ◌-◌, ◌<◌, ◌≤◌, ◌^◌, List, [], ◌∷◌, length, map, min, take, get_or, arith, ap, sym, ◌∙◌, subst, Some}
use Rattle.std.specs.Prelude.{◌==◌, slice_get, All}
use Rattle.std.proofs.lemmas.List.{get_or-map, length-map, length-take, take-map, take-take, take_all, take_more, map-append}
use Rattle.std.proofs.lemmas.List.Elements.{All-from_recursion, All-map, All-more, All-same, All-take, All-weaker, recursion_from_All}
use Rattle.std.proofs.lemmas.List.Sums.{sum_by_more, sum_by_push}
use Rattle.plan.specs.Plan.{Plan}
use Rattle.plan.specs.Symbols.{points}
use Rattle.plan.specs.Certificate.Certificate.{Certificate}
use Rattle.plan.specs.Certificate.Cells.{Piece, grid_symbols, pieces}
use Rattle.shares.specs.declared.counts.FetchLine.{FetchLine as LineHeld}
use Rattle.shares.specs.declared.seats.Seat.{Seat}
use Rattle.shares.specs.declared.boxes.Side.{Side}
use Rattle.shares.specs.Boxes.{point_count, sides}
use Rattle.shares.specs.Counts.{FetchPasses}
use Rattle.shares.specs.Early.{FetchIsPast}
use Rattle.shares.specs.FetchLines.{FetchIsFar, FetchLine, IsFirstFar, IsFirstPast, LineIsLimited, LineIsNear, plan_fetch_lines, cells_by, fetched_by, fetched_by_lines}
use Rattle.shares.specs.Lets.{AreNear, named}
use Rattle.shares.specs.Read.{IsOpen}
use Rattle.shares.specs.Noted.{line_of, lines_noted, told_line}
use Rattle.shares.specs.Has.{fetched_before}
use Rattle.shares.specs.Seats.{of_group, piece_of, pieces_of}
use Rattle.shares.specs.Shared.{AreShared}
use Rattle.shares.proofs.Groups.{get_mapped, get_some, get_within, some_same}
use Rattle.shares.proofs.Noting.{no_line, noted_at, noted_long, told_counts}
use Rattle.shares.proofs.Rising.{holds_of_all, holds_of_group, sum_of_group}
use Rattle.shares.proofs.Shared.{points_counted}
use Rattle.shares.proofs.Totals.{all_fetched, chosen, fetch_open, left_out, region_of_open, same_number, other_number}

-- ---- one line, piece after piece

pub seats_more : (x : FetchLine) (xs : List Seat) (k : ℕ) (s : Seat) → k < length xs → s ≡ get_or xs k s → fetched_by (pieces_of (take (k + 1) xs)) x ≡ fetched_by (pieces_of (take k xs)) x + cells_by x (piece_of s)
seats_more x xs k s less is =
    ap (λ (ys : List Seat). fetched_by (pieces_of ys) x) (take_more xs k s less) ∙ ap (λ (ps : List Piece). fetched_by ps x) (map-append piece_of (take k xs) (get_or xs k s ∷ []))
    ∙ sum_by_push (cells_by x) (pieces_of (take k xs)) (piece_of (get_or xs k s)) ∙ ap (λ (y : Seat). fetched_by (pieces_of (take k xs)) x + cells_by x (piece_of y)) (sym is)

-- a piece of the line's group adds the points of the line's box there
pub adds_box : (x : FetchLine) (s : Seat) (now : List Side) (before count most after : ℕ) → s.group ≡ x.group → now ≡ sides (named x.lets (grid_symbols s.at.items)) x.region → most ≡ min (point_count now) (2 ^ 64 - 1) →
    before ≡ min count (2 ^ 64 - 1) → after ≡ min (before + most) (2 ^ 64 - 1) → after ≡ min (count + cells_by x (piece_of s)) (2 ^ 64 - 1)
adds_box x s now before count most after same is m b a =
    let counted = points_counted (named x.lets (grid_symbols s.at.items)) x.region in
    let box = ap point_count is in
    let all = chosen (x.group == s.group) (length (points (named x.lets (grid_symbols s.at.items)) x.region)) (same_number x.group s.group (sym same)) in
    omega (arith, counted, box, all, m, b, a)

-- any other adds nothing
pub adds_none : (x : FetchLine) (s : Seat) (count : ℕ) → (s.group ≡ x.group → ⊥) → count + cells_by x (piece_of s) ≡ count
adds_none x s count other =
    let none = left_out (x.group == s.group) (length (points (named x.lets (grid_symbols s.at.items)) x.region)) (other_number x.group s.group (λ e. other (sym e))) in
    omega (arith, none)

-- ---- one line, by the pieces of its group alone

-- a line at a piece of its group
abbrev IsNearAt : FetchLine → Piece → Type 0
IsNearAt x j = j.group ≡ x.group → AreNear x.lets (grid_symbols j.at)

module _ (x : FetchLine) (xs : List Seat) where
  pub fetched_in_group : fetched_by (pieces_of (of_group x.group xs)) x ≡ fetched_by (pieces_of xs) x
  fetched_in_group =
      sum_of_group (cells_by x) x.group
      (λ j other. left_out (x.group == j.group) (length (points (named x.lets (grid_symbols j.at)) x.region)) (other_number x.group j.group (λ e. other (sym e)))) xs

  pub near_in_group : LineIsNear (pieces_of xs) x → LineIsNear (pieces_of (of_group x.group xs)) x
  near_in_group h =
      All-from_recursion (IsNearAt x) (pieces_of (of_group x.group xs)) (holds_of_group (IsNearAt x) x.group xs (recursion_from_All (IsNearAt x) (pieces_of xs) h))

  pub near_of_group : LineIsNear (pieces_of (of_group x.group xs)) x → LineIsNear (pieces_of xs) x
  near_of_group h =
      All-from_recursion (IsNearAt x) (pieces_of xs)
      (holds_of_all (IsNearAt x) x.group (λ j other same. absurd (other same)) xs (recursion_from_All (IsNearAt x) (pieces_of (of_group x.group xs)) h))

-- ---- line after line

module _ (js : List Piece) (held : List LineHeld) where
  abbrev L : List FetchLine
  L = lines_noted held

  long : length L ≡ length held
  long = length-map held line_of

  module _ (k : ℕ) (x : LineHeld) (less : k < length held) (is : x ≡ get_or held k x) where
    within : k < length L
    within = omega (arith, less, long)

    line_here : get_or L k (line_of x) ≡ line_of x
    line_here = get_or-map line_of held k x (line_of x) less ∙ ap line_of (sym is)

    -- what holds of all lines holds of it
    pub of_line : (P : FetchLine → Type 0) → All P L → P (line_of x)
    of_line P h = subst P line_here (h k (line_of x) within)

    -- it is one more of those of which something holds
    pub all_more : (P : FetchLine → Type 0) → All P (take k L) → P (line_of x) → All P (take (k + 1) L)
    all_more P before here = All-more P L k (line_of x) within before (subst P (sym line_here) here)

    next_count : fetched_by_lines js (take (k + 1) L) ≡ fetched_by_lines js (take k L) + fetched_by js (line_of x)
    next_count = sum_by_more (fetched_by js) L k (line_of x) within ∙ ap (λ (y : FetchLine). fetched_by_lines js (take k L) + fetched_by js y) line_here

    -- there is room for the line's cells
    pub room_left : (room count : ℕ) → room + fetched_by_lines js (take k L) ≡ 2 ^ 26 → count ≡ min (fetched_by js (line_of x)) (2 ^ 64 - 1) → count ≤ room →
        (room - count) + fetched_by_lines js (take (k + 1) L) ≡ 2 ^ 26
    room_left room count before counts fits =
        let more = next_count in
        omega (arith, before, counts, fits, more)

    -- there is not
    pub passes_here : (room count : ℕ) → room + fetched_by_lines js (take k L) ≡ 2 ^ 26 → count ≡ min (fetched_by js (line_of x)) (2 ^ 64 - 1) → room < count → IsFirstPast js L k
    passes_here room count before counts past =
        let more = next_count in
        record { within = within; before = omega (arith, before); past = omega (arith, before, more, counts, past) }

    -- it is near, as those before it are
    pub near_more : All (LineIsNear js) (take k L) → LineIsNear js (line_of x) → All (LineIsNear js) (take (k + 1) L)
    near_more before near = All-more (LineIsNear js) L k (line_of x) within before (subst (LineIsNear js) (sym line_here) near)

    -- it is the first that is far
    pub far_here : All (LineIsNear js) (take k L) → ¬ LineIsNear js (line_of x) → IsFirstFar js L k
    far_here near far = record {
      line = line_of x;
      stands = get_some L k (line_of x) within ∙ ap (λ (y : FetchLine). Some y) line_here;
      near = near;
      far = far;
    }

  -- all lines have room
  pub all_have_room : (k room : ℕ) → length held ≤ k → room + fetched_by_lines js (take k L) ≡ 2 ^ 26 → fetched_by_lines js L ≤ 2 ^ 26
  all_have_room k room end before =
      let whole = ap (fetched_by_lines js) (take_all k L (omega (arith, end, long))) in
      omega (arith, before, whole)

  -- all lines are near
  pub near_end : (k : ℕ) → length held ≤ k → All (LineIsNear js) (take k L) → All (LineIsNear js) L
  near_end k end near = All-same (LineIsNear js) L (take k L) (sym (take_all k L (omega (arith, end, long)))) near

  -- ---- the first of them, so many

  module _ (count : ℕ) where
    pub noted_first : lines_noted (take count held) ≡ take count L
    noted_first = sym (take-map line_of count held)

    pub firsts_limited : All LineIsLimited L → All LineIsLimited (lines_noted (take count held))
    firsts_limited h = All-same LineIsLimited (lines_noted (take count held)) (take count L) noted_first (All-take LineIsLimited count L h)

    pub firsts_near : All (LineIsNear js) (take count L) → All (LineIsNear js) (lines_noted (take count held))
    firsts_near h = All-same (LineIsNear js) (lines_noted (take count held)) (take count L) noted_first h

    pub firsts_counted : fetched_by_lines js (lines_noted (take count held)) ≤ 2 ^ 26 → fetched_by_lines js (take count L) ≤ 2 ^ 26
    firsts_counted h = let same = ap (fetched_by_lines js) noted_first in omega (arith, h, same)

    -- one of them with which too many cells are fetched
    module _ (k : ℕ) (past : IsFirstPast js (lines_noted (take count held)) k) where
      pub below : k < count
      below =
          let within = past.within in
          let same = ap length noted_first in
          let most = length-take count L in
          omega (arith, within, same, most)

      shorter : (m : ℕ) → m ≤ count → fetched_by_lines js (take m (lines_noted (take count held))) ≡ fetched_by_lines js (take m L)
      shorter m most = ap (λ (xs : List FetchLine). fetched_by_lines js (take m xs)) noted_first ∙ ap (fetched_by_lines js) (take-take m count L most)

      pub past_first : IsFirstPast js L k
      past_first =
          let within = past.within in
          let same = ap length noted_first in
          let most = length-take count L in
          let one = shorter k (omega (arith, below)) in
          let two = shorter (k + 1) (omega (arith, below)) in
          let before = past.before in
          let passed = past.past in
          record { within = omega (arith, within, same, most); before = omega (arith, before, one); past = omega (arith, passed, two) }

      pub near_first : All (LineIsNear js) (take count L) → All (LineIsNear js) (take k L)
      near_first h = All-same (LineIsNear js) (take k L) (take k (take count L)) (sym (take-take k count L (omega (arith, below)))) (All-take (LineIsNear js) k (take count L) h)

-- ---- a plan's lines

near_untold : (js : List Piece) (xs : List FetchLine) → All (LineIsNear js) (map told_line xs) → All (LineIsNear js) xs
near_untold js xs h k d less = subst (LineIsNear js) (get_or-map told_line xs k d (told_line d) less) (h k (told_line d) (let same = length-map xs told_line in omega (arith, less, same)))

module _ (p : Plan) (held : List LineHeld) (all : lines_noted held ≡ map told_line (plan_fetch_lines p)) where
  abbrev F : List FetchLine
  F = plan_fetch_lines p

  many : length held ≡ length F
  many = noted_long p held all

  firsts_are : (k : ℕ) → take k (lines_noted held) ≡ map told_line (take k F)
  firsts_are k = ap (λ (xs : List FetchLine). take k xs) all ∙ take-map told_line k F

  first_counts : (js : List Piece) (k : ℕ) → fetched_by_lines js (take k (lines_noted held)) ≡ fetched_by_lines js (take k F)
  first_counts js k = ap (fetched_by_lines js) (firsts_are k) ∙ told_counts js (take k F)

  first_near : (js : List Piece) (k : ℕ) → All (LineIsNear js) (take k (lines_noted held)) → All (LineIsNear js) (take k F)
  first_near js k h = near_untold js (take k F) (All-same (LineIsNear js) (map told_line (take k F)) (take k (lines_noted held)) (sym (firsts_are k)) h)

  pub all_near : (js : List Piece) → All (LineIsNear js) (lines_noted held) → All (LineIsNear js) F
  all_near js h = near_untold js F (All-same (LineIsNear js) (map told_line F) (lines_noted held) (sym all) h)

  pub near_noted : (js : List Piece) → All (LineIsNear js) F → All (LineIsNear js) (lines_noted held)
  near_noted js h = All-same (LineIsNear js) (lines_noted held) (map told_line F) all (All-map (LineIsNear js) told_line F h)

  pub limited_noted : All (IsOpen p) F → All LineIsLimited (lines_noted held)
  limited_noted stand =
      All-same LineIsLimited (lines_noted held) (map told_line F) all
      (All-map LineIsLimited told_line F (All-weaker (IsOpen p) LineIsLimited (λ x h. (region_of_open p x h, h.lets)) F stand))

  -- no more cells are fetched than may be
  pub few_fetched : (c : Certificate) → AreShared p c → fetched_by_lines (pieces p) (lines_noted held) ≤ 2 ^ 26 → fetched_before p (length (pieces p)) ≤ 2 ^ 26
  few_fetched c shared few =
      let same : fetched_by_lines (pieces p) (lines_noted held) ≡ fetched_by_lines (pieces p) F = ap (fetched_by_lines (pieces p)) all ∙ told_counts (pieces p) F in
      let fetched = all_fetched p (fetch_open p c shared) in
      omega (arith, few, same, fetched)

  module _ (js : List Piece) (same : js ≡ pieces p) (k : ℕ) (x : LineHeld) (is : x ≡ get_or held k x) where
    abbrev this : FetchLine
    this = get_or F k no_line

    near_before : All (LineIsNear js) (take k (lines_noted held)) → All (LineIsNear (pieces p)) (take k F)
    near_before h = subst (λ (ps : List Piece). All (LineIsNear ps) (take k F)) same (first_near js k h)

    few_before : fetched_by_lines js (take k (lines_noted held)) ≤ 2 ^ 26 → fetched_by_lines (pieces p) (take k F) ≤ 2 ^ 26
    few_before h =
        let first = first_counts js k in
        let of_plan = ap (λ (ps : List Piece). fetched_by_lines ps (take k F)) same in
        omega (arith, h, first, of_plan)

    -- the line of this place is one with which too many cells are fetched
    pub passes : (c : Certificate) → AreShared p c → All (LineIsNear js) (take k (lines_noted held)) → IsFirstPast js (lines_noted held) k → FetchPasses p c x.line
    passes c shared near past =
        let counted = length-map held line_of in
        let within = past.within in
        let passed = past.past in
        let next = first_counts js (k + 1) in
        let of_plan = ap (λ (ps : List Piece). fetched_by_lines ps (take (k + 1) F)) same in (
          this,
          record {
            bodies = fetch_open p c shared;
            place = k;
            stands = get_some F k no_line (omega (arith, within, counted, many));
            near = near_before near;
            before = few_before past.before;
            passed = omega (arith, passed, next, of_plan);
          },
          ap (λ (y : FetchLine). y.line) (noted_at p held all k x (omega (arith, within, counted)) is),
        )

    pub past_fetch : All (LineIsNear js) (take k (lines_noted held)) → IsFirstPast js (lines_noted held) k → FetchIsPast p x.line
    past_fetch near past =
        let counted = length-map held line_of in
        let within = past.within in
        let passed = past.past in
        let next = first_counts js (k + 1) in
        let of_plan = ap (λ (ps : List Piece). fetched_by_lines ps (take (k + 1) F)) same in (
          this,
          record {
            place = k;
            stands = get_some F k no_line (omega (arith, within, counted, many));
            near = near_before near;
            before = few_before past.before;
            passed = omega (arith, passed, next, of_plan);
          },
          ap (λ (y : FetchLine). y.line) (noted_at p held all k x (omega (arith, within, counted)) is),
        )

    -- or the first one that is far
    pub far_fetch : IsFirstFar js (lines_noted held) k → fetched_by_lines js (take k (lines_noted held)) ≤ 2 ^ 26 → FetchIsFar p x.line
    far_fetch first few =
        let counted = length-map held line_of in
        let within = get_within (lines_noted held) k first.line first.stands in
        let line_is : line_of x ≡ told_line this = noted_at p held all k x (omega (arith, within, counted)) is in
        let at : slice_get (lines_noted held) k ≡ Some (line_of x) = get_mapped line_of held k x (omega (arith, within, counted)) ∙ ap (λ (y : LineHeld). Some (line_of y)) (sym is) in
        let told : first.line ≡ told_line this = some_same first.line (line_of x) (sym first.stands ∙ at) ∙ line_is in (
          this,
          record {
            place = k;
            stands = get_some F k no_line (omega (arith, within, counted, many));
            near = near_before first.near;
            before = few_before few;
            far = λ near. first.far (subst (LineIsNear js) (sym told) (subst (λ (ps : List Piece). LineIsNear ps this) (sym same) near));
          },
          ap (λ (y : FetchLine). y.line) line_is,
        )
