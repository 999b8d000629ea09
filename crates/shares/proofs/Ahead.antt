-- The fetch lines before a line that is broken.
use Rattle.std.proofs.Common.{◌≡◌, ℕ, zero, suc, ◌+◌, ◌-◌, ◌^◌, ◌<◌, ◌≤◌, List, [], ◌∷◌, ◌++◌, length, map, min, take, drop, get_or, arith, ap, refl, sym, ◌∙◌, subst, Option, Some, None, inl, inr}
use Rattle.std.specs.Prelude.{◌==◌, ◌⊎◌, slice_get, All, MatchOption}
use Rattle.std.specs.List.{AllByRecursion, range_with_len}
use Rattle.std.proofs.lemmas.Bool.{cases_lt}
use Rattle.std.proofs.lemmas.List.{length-map, length-take, take-map, take-take, take_all}
use Rattle.std.proofs.lemmas.List.Elements.{All-append, All-from_recursion, All-same, All-take, All-weaker, recursion_from_All}
use Rattle.std.proofs.lemmas.List.Sums.{sum_by-append, sum_by-cons, sum_by-take-le}
use Rattle.plan.specs.Plan.{Statement, Seq, For, Let, First, Guard, Alloc, Fetch, Store, Publish, Statements, Empty, Then, Group, Plan}
use Rattle.plan.specs.Lines.{lines, block_lines, body_line, group_lines, groups_lines}
use Rattle.plan.specs.Symbols.{points}
use Rattle.plan.specs.Certificate.Cells.{Piece, first_piece, grid_symbols, group_pieces, piece, pieces, pieces_from}
use Rattle.soundness.specs.Outline.Flaws.{line_told}
use Rattle.shares.specs.declared.boxes.Side.{Side}
use Rattle.shares.specs.declared.counts.FetchLine.{FetchLine as LineHeld}
use Rattle.shares.specs.Boxes.{grid_sides, point_count}
use Rattle.shares.specs.Early.{AreRead, AreReadBefore, FetchIsWrong, FetchLinesStand, IsFirstWrong, IsGroupCount, StandAhead, until}
use Rattle.shares.specs.FetchLines.{FetchLine, IsFirstFar, IsFirstPast, LineIsLimited, LineIsNear, block_fetch_lines, cells_by, fetch_lines, fetch_lines_from, fetched_by, fetched_by_lines, plan_fetch_lines}
use Rattle.shares.specs.Lets.{AreNear, Naming, named, naming}
use Rattle.shares.specs.Noted.{line_of, lines_noted, told_line}
use Rattle.shares.proofs.Grids.{grid_count}
use Rattle.shares.proofs.Groups.{all_at_place, get_some, get_within, no_pieces, pieces_after, some_same}
use Rattle.shares.proofs.Noting.{no_line, noted_at, noted_long, told_counts}
use Rattle.shares.proofs.Passing.{all_more, far_fetch, firsts_near, firsts_counted, near_first, noted_first, past_fetch, past_first}
use Rattle.shares.proofs.Totals.{left_out, other_number}

-- ---- the first of some lines at which something is wrong

module _ (js : List Piece) (held : List LineHeld) where
  abbrev L : List FetchLine
  L = lines_noted held

  abbrev Found : Option ℕ → Type 0
  Found far = MatchOption far (All (LineIsNear js) L) (IsFirstFar js L)

  pub end_within : (far : Option ℕ) → Found far → until far (length held) ≤ length held
  end_within None found = omega arith
  end_within (Some place) found = let within = get_within L place found.line found.stands in let long = length-map held line_of in omega (arith, within, long)

  near_until : (far : Option ℕ) → Found far → All (LineIsNear js) (take (until far (length held)) L)
  near_until None found = let long = length-map held line_of in All-same (LineIsNear js) (take (length held) L) L (take_all (length held) L (omega (arith, long))) found
  near_until (Some place) found = found.near

  pub firsts_are_near : (far : Option ℕ) → Found far → All (LineIsNear js) (lines_noted (take (until far (length held)) held))
  firsts_are_near far found = firsts_near js held (until far (length held)) (near_until far found)

  pub wrong_past : (far : Option ℕ) → Found far → (place : ℕ) → IsFirstPast js (lines_noted (take (until far (length held)) held)) place → IsFirstWrong js L place
  wrong_past far found place past =
      let end = until far (length held) in
      inr (near_first js held end place past (near_until far found), past_first js held end place past)

  pub wrong_far : (far : Option ℕ) → Found far → fetched_by_lines js (lines_noted (take (until far (length held)) held)) ≤ 2 ^ 26 → MatchOption far (AreRead js L) (IsFirstWrong js L)
  wrong_far None found few =
      let counted = firsts_counted js held (length held) few in
      let long = length-map held line_of in
      let whole = ap (fetched_by_lines js) (take_all (length held) L (omega (arith, long))) in
      record { near = found; few = omega (arith, counted, whole) }
  wrong_far (Some place) found few = inl (found, firsts_counted js held place few)

-- ---- pieces of the first groups

push_suc : (k : ℕ) (gs : List Group) (n : ℕ) (g : Group) → slice_get gs n ≡ Some g →
    pieces_from k (take (suc n) gs) ≡ pieces_from k (take n gs) ++ map (piece g (k + n)) (range_with_len 0 (group_pieces g))
push_suc k [] n g at = absurd (cc at)
push_suc k (x ∷ xs) zero g at =
    let same : x ≡ g = some_same x g at in
    let here : k ≡ k + 0 = omega arith in
    with_none (map (piece x k) (range_with_len 0 (group_pieces x))) ∙ (λ i. map (piece (same i) (here i)) (range_with_len 0 (group_pieces (same i))))
  where
    with_none : (ps : List Piece) → ps ++ [] ≡ ps
    with_none [] = refl
    with_none (p ∷ ps) = ap (λ (qs : List Piece). p ∷ qs) (with_none ps)
push_suc k (x ∷ xs) (suc n) g at =
    let row = map (piece x k) (range_with_len 0 (group_pieces x)) in
    let rest = push_suc (k + 1) xs n g at in
    let here : (k + 1) + n ≡ k + suc n = omega arith in
    ap (λ (ps : List Piece). row ++ ps) rest
    ∙ ap (λ (m : ℕ). row ++ (pieces_from (k + 1) (take n xs) ++ map (piece g m) (range_with_len 0 (group_pieces g)))) here
    ∙ sym (joined row (pieces_from (k + 1) (take n xs)) (map (piece g (k + suc n)) (range_with_len 0 (group_pieces g))))
  where
    joined : (us bs cs : List Piece) → (us ++ bs) ++ cs ≡ us ++ (bs ++ cs)
    joined [] bs cs = refl
    joined (a ∷ us) bs cs = ap (λ (ps : List Piece). a ∷ ps) (joined us bs cs)

pub pieces_push : (k : ℕ) (gs : List Group) (n : ℕ) (g : Group) → slice_get gs n ≡ Some g →
    pieces_from k (take (n + 1) gs) ≡ pieces_from k (take n gs) ++ map (piece g (k + n)) (range_with_len 0 (group_pieces g))
pieces_push k gs n g at = let one : n + 1 ≡ suc n = omega arith in ap (λ (m : ℕ). pieces_from k (take m gs)) one ∙ push_suc k gs n g at

pieces_split : (k : ℕ) (gs : List Group) (n : ℕ) → pieces_from k gs ≡ pieces_from k (take n gs) ++ pieces_from (k + n) (drop n gs)
pieces_split k gs zero = let here : k ≡ k + 0 = omega arith in ap (λ (m : ℕ). pieces_from m gs) here
pieces_split k [] (suc n) = refl
pieces_split k (x ∷ xs) (suc n) =
    let row = map (piece x k) (range_with_len 0 (group_pieces x)) in
    let here : (k + 1) + n ≡ k + suc n = omega arith in
    ap (λ (ps : List Piece). row ++ ps) (pieces_split (k + 1) xs n)
    ∙ ap (λ (m : ℕ). row ++ (pieces_from (k + 1) (take n xs) ++ pieces_from m (drop n xs))) here
    ∙ sym (joined row (pieces_from (k + 1) (take n xs)) (pieces_from (k + suc n) (drop n xs)))
  where
    joined : (us bs cs : List Piece) → (us ++ bs) ++ cs ≡ us ++ (bs ++ cs)
    joined [] bs cs = refl
    joined (a ∷ us) bs cs = ap (λ (ps : List Piece). a ∷ ps) (joined us bs cs)

-- pieces of groups from a number on are of no lower group
row_from : (k m : ℕ) (g : Group) (ns : List ℕ) → k ≤ m → AllByRecursion (λ j. k ≤ j.group) (map (piece g m) ns)
row_from k m g [] less = tt
row_from k m g (n ∷ ns) less = (less, row_from k m g ns less)

both_from : (k : ℕ) (us bs : List Piece) → AllByRecursion (λ j. k ≤ j.group) us → AllByRecursion (λ j. k ≤ j.group) bs → AllByRecursion (λ j. k ≤ j.group) (us ++ bs)
both_from k [] bs h l = l
both_from k (a ∷ us) bs h l = (h.0, both_from k us bs h.1 l)

groups_from : (k m : ℕ) (gs : List Group) → k ≤ m → AllByRecursion (λ j. k ≤ j.group) (pieces_from m gs)
groups_from k m [] less = tt
groups_from k m (g ∷ gs) less =
    both_from k (map (piece g m) (range_with_len 0 (group_pieces g))) (pieces_from (m + 1) gs) (row_from k m g (range_with_len 0 (group_pieces g)) less)
    (groups_from k (m + 1) gs (omega (arith, less)))

pub pieces_few : (gs : List Group) (n m : ℕ) → n ≤ m → first_piece gs n ≤ first_piece gs m
pieces_few [] n m less = omega arith
pieces_few (g ∷ gs) zero m less = omega arith
pieces_few (g ∷ gs) (suc n) zero less = absurd (omega (arith, less))
pieces_few (g ∷ gs) (suc n) (suc m) less = let h = pieces_few gs n m (omega (arith, less)) in omega (arith, h)

-- the pieces of one of the first groups
pub first_counted : (gs : List Group) (n groups : ℕ) (g : Group) (now : List Side) (count : ℕ) → slice_get gs n ≡ Some g → n < groups → first_piece gs groups ≤ 2 ^ 20 → now ≡ grid_sides g.grid →
    count ≡ min (point_count now) (2 ^ 64 - 1) → (count ≡ group_pieces g) × (count ≤ 2 ^ 20)
first_counted gs n groups g now count at less few is m =
    let same = ap point_count is in
    let counted = grid_count g.grid in
    let more = pieces_after gs n g at in
    let most = pieces_few gs (n + 1) groups (omega (arith, less)) in
    (omega (arith, same, counted, more, most, few, m), omega (arith, same, counted, more, most, few, m))

-- ---- how many groups lines are of

taken_at : {A : Type 0} (n : ℕ) (xs : List A) (i : ℕ) (d : A) → i < n → get_or (take n xs) i d ≡ get_or xs i d
taken_at zero xs i d less = absurd (omega (arith, less))
taken_at (suc n) [] i d less = refl
taken_at (suc n) (y ∷ ys) zero d less = refl
taken_at (suc n) (y ∷ ys) (suc i) d less = taken_at n ys i d (omega (arith, less))

held_at : (hs : List LineHeld) (k : ℕ) (d : LineHeld) → k < length hs → d ≡ get_or hs k d → get_or (lines_noted hs) k (line_of d) ≡ line_of d
held_at [] k d less e = absurd (omega (arith, less))
held_at (y ∷ ys) zero d less e = ap line_of (sym e)
held_at (y ∷ ys) (suc k) d less e = held_at ys k d (omega (arith, less)) e

pub none_of_any : (xs : List FetchLine) → IsGroupCount (take 0 xs) 0
none_of_any xs = record { within = λ k d less. absurd (omega (arith, less)); few = λ gs h. (let none = no_pieces gs in omega (arith, none)) }

pub count_more : (held : List LineHeld) (k : ℕ) (x : LineHeld) → k < length held → x ≡ get_or held k x → (count now : ℕ) → count ≤ now → x.group < now → (now ≡ count) ⊎ (now ≡ x.group + 1) →
    IsGroupCount (take k (lines_noted held)) count → IsGroupCount (take (k + 1) (lines_noted held)) now
count_more held k x less is count now most below either before = record {
  within = all_more [] held k x less is (λ y. y.group < now)
      (All-weaker (λ y. y.group < count) (λ y. y.group < now) (λ y early. omega (arith, early, most)) (take k (lines_noted held)) before.within) below;
  few = λ gs h.
      let L : List FetchLine = lines_noted held in
      let Few : FetchLine → Type 0 = λ y. first_piece gs (y.group + 1) ≤ 2 ^ 20 in
      let earlier : All Few (take k L) = All-same Few (take k L) (take k (take (k + 1) L)) (sym (take-take k (k + 1) L (omega arith))) (All-take Few k (take (k + 1) L) h) in
      let long = length-map held line_of in
      let at : get_or (take (k + 1) L) k (line_of x) ≡ line_of x = taken_at (k + 1) L k (line_of x) (omega arith) ∙ held_at held k x less is in
      let here : Few (line_of x) = subst Few at (h k (line_of x) (let cut = length-take (k + 1) L in omega (arith, cut, long, less))) in
      elim either [
        | inl same ↦ (let old = before.few gs earlier in let e = ap (first_piece gs) same in omega (arith, old, e))
        | inr same ↦ (let e = ap (first_piece gs) same in omega (arith, here, e))
      ];
}

-- ---- a line of an early group in all pieces and in those of the first groups

none_counted : (x : FetchLine) (js : List Piece) (groups : ℕ) → x.group < groups → AllByRecursion (λ j. groups ≤ j.group) js → fetched_by js x ≡ 0
none_counted x [] groups less h = refl
none_counted x (j ∷ js) groups less h =
    let rest = none_counted x js groups less h.1 in
    let whole = sum_by-cons (cells_by x) j js in
    let from = h.0 in
    let none = left_out (x.group == j.group) (length (points (named x.lets (grid_symbols j.at)) x.region)) (other_number x.group j.group (λ same. omega (arith, same, from, less))) in
    omega (arith, rest, whole, none)

none_far : (x : FetchLine) (js : List Piece) (groups : ℕ) → x.group < groups → AllByRecursion (λ j. groups ≤ j.group) js →
    AllByRecursion (λ j. j.group ≡ x.group → AreNear x.lets (grid_symbols j.at)) js
none_far x [] groups less h = tt
none_far x (j ∷ js) groups less h = (λ same. absurd (let from = h.0 in omega (arith, same, from, less)), none_far x js groups less h.1)

first_of_both : (P : Piece → Type 0) (us bs : List Piece) → AllByRecursion P (us ++ bs) → AllByRecursion P us
first_of_both P [] bs h = tt
first_of_both P (a ∷ us) bs h = (h.0, first_of_both P us bs h.1)

module _ (p : Plan) (groups : ℕ) where
  abbrev J : List Piece
  J = pieces_from 0 (take groups p.groups)

  abbrev Rest : List Piece
  Rest = pieces_from groups (drop groups p.groups)

  split : pieces p ≡ J ++ Rest
  split = pieces_split 0 p.groups groups ∙ (let here : 0 + groups ≡ groups = omega arith in ap (λ (m : ℕ). J ++ pieces_from m (drop groups p.groups)) here)

  late : AllByRecursion (λ j. groups ≤ j.group) Rest
  late = groups_from groups groups (drop groups p.groups) (omega arith)

  module _ (x : FetchLine) (less : x.group < groups) where
    same_count : fetched_by J x ≡ fetched_by (pieces p) x
    same_count =
        let whole = ap (λ (js : List Piece). fetched_by js x) split in
        let both = sum_by-append (cells_by x) J Rest in
        let none = none_counted x Rest groups less late in
        omega (arith, whole, both, none)

    near_all : LineIsNear J x → LineIsNear (pieces p) x
    near_all h =
        let P : Piece → Type 0 = λ j. j.group ≡ x.group → AreNear x.lets (grid_symbols j.at) in
        All-same P (pieces p) (J ++ Rest) split (All-append P J Rest h (All-from_recursion P Rest (none_far x Rest groups less late)))

  near_first_groups : (x : FetchLine) → LineIsNear (pieces p) x → LineIsNear J x
  near_first_groups x h =
      let P : Piece → Type 0 = λ j. j.group ≡ x.group → AreNear x.lets (grid_symbols j.at) in
      All-from_recursion P J (first_of_both P J Rest (recursion_from_All P (J ++ Rest) (All-same P (J ++ Rest) (pieces p) (sym split) h)))

  abbrev Within : FetchLine → Type 0
  Within x = x.group < groups

  all_near : (xs : List FetchLine) → AllByRecursion Within xs → AllByRecursion (LineIsNear J) xs → AllByRecursion (LineIsNear (pieces p)) xs
  all_near [] w h = tt
  all_near (x ∷ xs) w h = (near_all x w.0 h.0, all_near xs w.1 h.1)

  nears : (xs : List FetchLine) → All Within xs → All (LineIsNear J) xs → All (LineIsNear (pieces p)) xs
  nears xs w h = All-from_recursion (LineIsNear (pieces p)) xs (all_near xs (recursion_from_All Within xs w) (recursion_from_All (LineIsNear J) xs h))

  all_counts : (xs : List FetchLine) → AllByRecursion Within xs → fetched_by_lines J xs ≡ fetched_by_lines (pieces p) xs
  all_counts [] w = refl
  all_counts (x ∷ xs) w =
      let here = same_count x w.0 in
      let rest = all_counts xs w.1 in
      let one = sum_by-cons (fetched_by J) x xs in
      let two = sum_by-cons (fetched_by (pieces p)) x xs in
      omega (arith, here, rest, one, two)

  counts : (xs : List FetchLine) → All Within xs → fetched_by_lines J xs ≡ fetched_by_lines (pieces p) xs
  counts xs w = all_counts xs (recursion_from_All Within xs w)

  -- what is so in the pieces of the first groups is so in all
  module _ (xs : List FetchLine) (w : All Within xs) where
    firsts : (k : ℕ) → All Within (take k xs)
    firsts k = All-take Within k xs w

    read_all : AreRead J xs → AreRead (pieces p) xs
    read_all h = record { near = nears xs w h.near; few = (let same = counts xs w in let few = h.few in omega (arith, same, few)) }

    wrong_all : (place : ℕ) → IsFirstWrong J xs place → IsFirstWrong (pieces p) xs place
    wrong_all place h = elim h [
      | inl f ↦
          let far = f.0 in
          let few = f.1 in
          let same = counts (take place xs) (firsts place) in
          inl (
            record {
              line = far.line;
              stands = far.stands;
              near = nears (take place xs) (firsts place) far.near;
              far = λ near. far.far (near_first_groups far.line near);
            },
            omega (arith, few, same),
          )
      | inr f ↦
          let past = f.1 in
          let before = past.before in
          let passed = past.past in
          let one = counts (take place xs) (firsts place) in
          let two = counts (take (place + 1) xs) (firsts (place + 1)) in
          inr (nears (take place xs) (firsts place) f.0, record { within = past.within; before = omega (arith, before, one); past = omega (arith, passed, two) })
    ]

-- ---- the order of fetch lines

abbrev IsSorted : List FetchLine → Type 0
IsSorted [] = Unit {0}
IsSorted (x ∷ xs) = AllByRecursion (λ y. x.line ≤ y.line) xs × IsSorted xs

abbrev Between : ℕ → ℕ → FetchLine → Type 0
Between low high x = (low ≤ x.line) × (x.line < high)

wider : (low high a b : ℕ) (xs : List FetchLine) → a ≤ low → high ≤ b → AllByRecursion (Between low high) xs → AllByRecursion (Between a b) xs
wider low high a b [] less most h = tt
wider low high a b (x ∷ xs) less most h = ((let f = h.0.0 in omega (arith, less, f), let f = h.0.1 in omega (arith, most, f)), wider low high a b xs less most h.1)

both_between : (low high : ℕ) (xs ys : List FetchLine) → AllByRecursion (Between low high) xs → AllByRecursion (Between low high) ys → AllByRecursion (Between low high) (xs ++ ys)
both_between low high [] ys h k = k
both_between low high (x ∷ xs) ys h k = (h.0, both_between low high xs ys h.1 k)

all_from : (m b n : ℕ) (ys : List FetchLine) → n ≤ m → AllByRecursion (Between m b) ys → AllByRecursion (λ y. n ≤ y.line) ys
all_from m b n [] less h = tt
all_from m b n (y ∷ ys) less h = (let f = h.0.0 in omega (arith, less, f), all_from m b n ys less h.1)

both_later : (n : ℕ) (xs ys : List FetchLine) → AllByRecursion (λ y. n ≤ y.line) xs → AllByRecursion (λ y. n ≤ y.line) ys → AllByRecursion (λ y. n ≤ y.line) (xs ++ ys)
both_later n [] ys h k = k
both_later n (x ∷ xs) ys h k = (h.0, both_later n xs ys h.1 k)

sorted_both : (low m high : ℕ) (xs ys : List FetchLine) → AllByRecursion (Between low m) xs → AllByRecursion (Between m high) ys → IsSorted xs → IsSorted ys → IsSorted (xs ++ ys)
sorted_both low m high [] ys h k s t = t
sorted_both low m high (x ∷ xs) ys h k s t =
    (both_later x.line xs ys s.0 (all_from m high x.line ys (let f = h.0.1 in omega (arith, f)) k), sorted_both low m high xs ys h.1 k s.1 t)

module _ (n : ℕ) where
  mutual
    lines_between : (ls : List Naming) (a : Statement) (at : ℕ) → AllByRecursion (Between at (at + lines a)) (fetch_lines n ls a at)
    lines_between ls (Seq all) at = block_between ls all at
    lines_between ls (For i x kind body) at = tt
    lines_between ls (Let i pick forms) at = tt
    lines_between ls (First i a b) at = tt
    lines_between ls (Guard low high body) at = tt
    lines_between ls (Alloc b f places) at = tt
    lines_between ls (Fetch b g region) at = ((omega arith, omega arith), tt)
    lines_between ls (Store b k places v) at = tt
    lines_between ls (Publish c) at = tt

    block_between : (ls : List Naming) (all : Statements) (at : ℕ) → AllByRecursion (Between at (at + block_lines all)) (block_fetch_lines n ls all at)
    block_between ls Empty at = tt
    block_between ls (Then a rest) at =
        both_between at (at + (lines a + block_lines rest)) (fetch_lines n ls a at) (block_fetch_lines n (ls ++ naming a) rest (at + lines a))
        (wider at (at + lines a) at (at + (lines a + block_lines rest)) (fetch_lines n ls a at) (omega arith) (omega arith) (lines_between ls a at))
        (wider (at + lines a) ((at + lines a) + block_lines rest) at (at + (lines a + block_lines rest)) (block_fetch_lines n (ls ++ naming a) rest (at + lines a)) (omega arith) (omega arith)
        (block_between (ls ++ naming a) rest (at + lines a)))

  mutual
    lines_sorted : (ls : List Naming) (a : Statement) (at : ℕ) → IsSorted (fetch_lines n ls a at)
    lines_sorted ls (Seq all) at = block_sorted ls all at
    lines_sorted ls (For i x kind body) at = tt
    lines_sorted ls (Let i pick forms) at = tt
    lines_sorted ls (First i a b) at = tt
    lines_sorted ls (Guard low high body) at = tt
    lines_sorted ls (Alloc b f places) at = tt
    lines_sorted ls (Fetch b g region) at = (tt, tt)
    lines_sorted ls (Store b k places v) at = tt
    lines_sorted ls (Publish c) at = tt

    block_sorted : (ls : List Naming) (all : Statements) (at : ℕ) → IsSorted (block_fetch_lines n ls all at)
    block_sorted ls Empty at = tt
    block_sorted ls (Then a rest) at =
        sorted_both at (at + lines a) ((at + lines a) + block_lines rest) (fetch_lines n ls a at) (block_fetch_lines n (ls ++ naming a) rest (at + lines a)) (lines_between ls a at)
        (block_between (ls ++ naming a) rest (at + lines a)) (lines_sorted ls a at) (block_sorted (ls ++ naming a) rest (at + lines a))

-- the lines of groups stand one behind the other
next_line : (gs : List Group) (n : ℕ) (g : Group) → slice_get gs n ≡ Some g → groups_lines (take (suc n) gs) ≡ groups_lines (take n gs) + group_lines g
next_line [] n g at = absurd (cc at)
next_line (x ∷ xs) zero g at = let same = ap group_lines (some_same x g at) in omega (arith, same)
next_line (x ∷ xs) (suc n) g at = let h = next_line xs n g at in omega (arith, h)

module _ (p : Plan) where
  abbrev From : ℕ → List Group → Type 0
  From k gs = (m : ℕ) (g : Group) → slice_get gs m ≡ Some g → slice_get p.groups (k + m) ≡ Some g

  later : (k : ℕ) (g : Group) (gs : List Group) → From k (g ∷ gs) → From (k + 1) gs
  later k g gs from m h at = let here : k + suc m ≡ (k + 1) + m = omega arith in subst (λ (i : ℕ). slice_get p.groups i ≡ Some h) here (from (suc m) h at)

  body_next : (k : ℕ) (g : Group) → slice_get p.groups k ≡ Some g → body_line p k + lines g.body ≤ body_line p (k + 1)
  body_next k g at =
      let one : k + 1 ≡ suc k = omega arith in
      let here = ap (λ (m : ℕ). groups_lines (take m p.groups)) one in
      let h = next_line p.groups k g at in
      omega (arith, h, here)

  first_here : (k : ℕ) (g : Group) (gs : List Group) → From k (g ∷ gs) → slice_get p.groups k ≡ Some g
  first_here k g gs from = let here : k + 0 ≡ k = omega arith in subst (λ (i : ℕ). slice_get p.groups i ≡ Some g) here (from 0 g refl)

  groups_later : (k : ℕ) (gs : List Group) → From k gs → AllByRecursion (λ y. body_line p k ≤ y.line) (fetch_lines_from p k gs)
  groups_later k [] from = tt
  groups_later k (g ∷ gs) from =
      let low = body_line p k in
      let next = body_next k g (first_here k g gs from) in
      both_later low (fetch_lines k [] g.body low) (fetch_lines_from p (k + 1) gs)
      (all_from low (low + lines g.body) low (fetch_lines k [] g.body low) (omega arith) (lines_between k [] g.body low))
      (from_more low (body_line p (k + 1)) (fetch_lines_from p (k + 1) gs) (omega (arith, next)) (groups_later (k + 1) gs (later k g gs from)))
    where
      from_more : (a b : ℕ) (ys : List FetchLine) → a ≤ b → AllByRecursion (λ y. b ≤ y.line) ys → AllByRecursion (λ y. a ≤ y.line) ys
      from_more a b [] less h = tt
      from_more a b (y ∷ ys) less h = (let f = h.0 in omega (arith, less, f), from_more a b ys less h.1)

  sorted_later : (low m : ℕ) (xs ys : List FetchLine) → AllByRecursion (Between low m) xs → AllByRecursion (λ y. m ≤ y.line) ys → IsSorted xs → IsSorted ys → IsSorted (xs ++ ys)
  sorted_later low m [] ys h k s t = t
  sorted_later low m (x ∷ xs) ys h k s t = (both_later x.line xs ys s.0 (from_less x.line ys (let f = h.0.1 in omega (arith, f)) k), sorted_later low m xs ys h.1 k s.1 t)
    where
      from_less : (a : ℕ) (zs : List FetchLine) → a ≤ m → AllByRecursion (λ y. m ≤ y.line) zs → AllByRecursion (λ y. a ≤ y.line) zs
      from_less a [] less h = tt
      from_less a (z ∷ zs) less h = (let f = h.0 in omega (arith, less, f), from_less a zs less h.1)

  groups_sorted : (k : ℕ) (gs : List Group) → From k gs → IsSorted (fetch_lines_from p k gs)
  groups_sorted k [] from = tt
  groups_sorted k (g ∷ gs) from =
      let low = body_line p k in
      let next = body_next k g (first_here k g gs from) in
      sorted_later low (body_line p (k + 1)) (fetch_lines k [] g.body low) (fetch_lines_from p (k + 1) gs)
      (wider low (low + lines g.body) low (body_line p (k + 1)) (fetch_lines k [] g.body low) (omega arith) next (lines_between k [] g.body low))
      (groups_later (k + 1) gs (later k g gs from)) (lines_sorted k [] g.body low) (groups_sorted (k + 1) gs (later k g gs from))

  sorted : IsSorted (plan_fetch_lines p)
  sorted = groups_sorted 0 p.groups (λ m g at. let here : m ≡ 0 + m = omega arith in subst (λ (i : ℕ). slice_get p.groups i ≡ Some g) here at)

-- the later of two of sorted lines stands no earlier
at_or_later : (n : ℕ) (ys : List FetchLine) (j : ℕ) (y : FetchLine) → slice_get ys j ≡ Some y → AllByRecursion (λ z. n ≤ z.line) ys → n ≤ y.line
at_or_later n [] j y at h = absurd (cc at)
at_or_later n (z ∷ zs) zero y at h = let f = h.0 in let same = ap (λ (w : FetchLine). w.line) (some_same z y at) in omega (arith, f, same)
at_or_later n (z ∷ zs) (suc j) y at h = at_or_later n zs j y at h.1

no_earlier : (xs : List FetchLine) → IsSorted xs → (i j : ℕ) (x y : FetchLine) → i ≤ j → slice_get xs i ≡ Some x → slice_get xs j ≡ Some y → x.line ≤ y.line
no_earlier [] s i j x y less at there = absurd (cc at)
no_earlier (z ∷ zs) s zero zero x y less at there = let same = ap (λ (w : FetchLine). w.line) (some_same x y (sym at ∙ there)) in omega (arith, same)
no_earlier (z ∷ zs) s zero (suc j) x y less at there =
    let first = ap (λ (w : FetchLine). w.line) (some_same z x at) in
    let f = at_or_later z.line zs j y there s.0 in
    omega (arith, first, f)
no_earlier (z ∷ zs) s (suc i) zero x y less at there = absurd (omega (arith, less))
no_earlier (z ∷ zs) s (suc i) (suc j) x y less at there = no_earlier zs s.1 i j x y (omega (arith, less)) at there

-- ---- groups of lines

both_of : (n : ℕ) (xs ys : List FetchLine) → AllByRecursion (λ x. x.group ≡ n) xs → AllByRecursion (λ x. x.group ≡ n) ys → AllByRecursion (λ x. x.group ≡ n) (xs ++ ys)
both_of n [] ys h k = k
both_of n (x ∷ xs) ys h k = (h.0, both_of n xs ys h.1 k)

mutual
  lines_of : (n : ℕ) (ls : List Naming) (a : Statement) (at : ℕ) → AllByRecursion (λ x. x.group ≡ n) (fetch_lines n ls a at)
  lines_of n ls (Seq all) at = block_of n ls all at
  lines_of n ls (For i x kind body) at = tt
  lines_of n ls (Let i pick forms) at = tt
  lines_of n ls (First i a b) at = tt
  lines_of n ls (Guard low high body) at = tt
  lines_of n ls (Alloc b f places) at = tt
  lines_of n ls (Fetch b g region) at = (refl, tt)
  lines_of n ls (Store b k places v) at = tt
  lines_of n ls (Publish c) at = tt

  block_of : (n : ℕ) (ls : List Naming) (all : Statements) (at : ℕ) → AllByRecursion (λ x. x.group ≡ n) (block_fetch_lines n ls all at)
  block_of n ls Empty at = tt
  block_of n ls (Then a rest) at = both_of n (fetch_lines n ls a at) (block_fetch_lines n (ls ++ naming a) rest (at + lines a)) (lines_of n ls a at) (block_of n (ls ++ naming a) rest (at + lines a))

below_both : (m : ℕ) (xs ys : List FetchLine) → AllByRecursion (λ x. x.group < m) xs → AllByRecursion (λ x. x.group < m) ys → AllByRecursion (λ x. x.group < m) (xs ++ ys)
below_both m [] ys h k = k
below_both m (x ∷ xs) ys h k = (h.0, below_both m xs ys h.1 k)

below_of : (n m : ℕ) (xs : List FetchLine) → n < m → AllByRecursion (λ x. x.group ≡ n) xs → AllByRecursion (λ x. x.group < m) xs
below_of n m [] less h = tt
below_of n m (x ∷ xs) less h = (let f = h.0 in omega (arith, less, f), below_of n m xs less h.1)

groups_below : (p : Plan) (k m : ℕ) (gs : List Group) → k + length gs ≤ m → AllByRecursion (λ x. x.group < m) (fetch_lines_from p k gs)
groups_below p k m [] less = tt
groups_below p k m (g ∷ gs) less =
    below_both m (fetch_lines k [] g.body (body_line p k)) (fetch_lines_from p (k + 1) gs)
    (below_of k m (fetch_lines k [] g.body (body_line p k)) (omega (arith, less)) (lines_of k [] g.body (body_line p k))) (groups_below p (k + 1) m gs (omega (arith, less)))

-- ---- the lines of a plan that stand before a line

module _ (p : Plan) (held : List LineHeld) (all : lines_noted held ≡ map told_line (plan_fetch_lines p)) (line count : ℕ) (stand : StandAhead (lines_noted held) line count) where
  abbrev F : List FetchLine
  F = plan_fetch_lines p

  abbrev Kept : List FetchLine
  Kept = lines_noted (take count held)

  many : length held ≡ length F
  many = noted_long p held all

  noted : length (lines_noted held) ≡ length held
  noted = length-map held line_of

  kept_are : Kept ≡ map told_line (take count F)
  kept_are = noted_first [] held count ∙ ap (λ (xs : List FetchLine). take count xs) all ∙ take-map told_line count F

  pub within : count ≤ length held
  within = let some = stand.some in omega (arith, some, noted)

  -- what holds of each line before this one holds of those that are kept
  module _ (P : FetchLine → Type 0) (h : (k : ℕ) (x : FetchLine) → slice_get F k ≡ Some x → line_told x.line < line → P (told_line x)) where
    each_kept : (i : ℕ) (xs : List FetchLine) (n : ℕ) → ((k : ℕ) (x : FetchLine) → slice_get xs k ≡ Some x → slice_get F (i + k) ≡ Some x) →
        AllByRecursion (λ x. x.line < line) (map told_line (take n xs)) → AllByRecursion P (map told_line (take n xs))
    each_kept i xs zero at early = tt
    each_kept i [] (suc n) at early = tt
    each_kept i (x ∷ xs) (suc n) at early = (
      (let here : i + 0 ≡ i = omega arith in h i x (subst (λ (k : ℕ). slice_get F k ≡ Some x) here (at 0 x refl)) early.0),
      each_kept (i + 1) xs n (λ k y there. let here : i + suc k ≡ (i + 1) + k = omega arith in subst (λ (m : ℕ). slice_get F m ≡ Some y) here (at (suc k) y there)) early.1,
    )

    early_kept : All (λ x. x.line < line) (map told_line (take count F))
    early_kept =
        All-same (λ x. x.line < line) (map told_line (take count F)) (take count (lines_noted held))
        (sym (ap (λ (xs : List FetchLine). take count xs) all ∙ take-map told_line count F)) stand.ahead

    pub all_kept : All P Kept
    all_kept =
        All-same P Kept (map told_line (take count F)) kept_are
        (All-from_recursion P (map told_line (take count F))
        (each_kept 0 F count (λ k x at. let here : k ≡ 0 + k = omega arith in subst (λ (m : ℕ). slice_get F m ≡ Some x) here at)
        (recursion_from_All (λ x. x.line < line) (map told_line (take count F)) early_kept)))

  -- lines that are not kept do not stand before it
  place_kept : (i : ℕ) (x : FetchLine) → slice_get F i ≡ Some x → line_told x.line < line → i < count
  place_kept i x at early = elim (cases_lt i count) [
    | inl less ↦ less
    | inr from ↦
        let end = get_within F i x at in
        let y = get_or F count no_line in
        let there : slice_get F count ≡ Some y = get_some F count no_line (omega (arith, from, end)) in
        let told : slice_get (lines_noted held) count ≡ Some (told_line y) = ap (λ (xs : List FetchLine). slice_get xs count) all ∙ told_at F count y there in
        let behind = stand.next (told_line y) told in
        let order = no_earlier F (sorted p) count i y x from there at in
        absurd (omega (arith, early, behind, order))
  ]
    where
      told_at : (xs : List FetchLine) (k : ℕ) (y : FetchLine) → slice_get xs k ≡ Some y → slice_get (map told_line xs) k ≡ Some (told_line y)
      told_at [] k y e = absurd (cc e)
      told_at (x ∷ xs) zero y e = ap (λ (z : FetchLine). Some (told_line z)) (some_same x y e)
      told_at (x ∷ xs) (suc k) y e = told_at xs k y e

  -- where nothing is wrong at those that are kept, nothing is at any before the line
  pub stand_all : AreRead (pieces p) Kept → FetchLinesStand p line
  stand_all read = record {
    near = λ i x at early.
        let kept = place_kept i x at early in
        let told : All (LineIsNear (pieces p)) (map told_line (take count F)) = All-same (LineIsNear (pieces p)) (map told_line (take count F)) Kept (sym kept_are) read.near in
        near_at (take count F) i x (taken count F i x kept at) (recursion_from_All (LineIsNear (pieces p)) (map told_line (take count F)) told);
    few = λ i x at early.
        let kept = place_kept i x at early in
        let few = read.few in
        let same : fetched_by_lines (pieces p) Kept ≡ fetched_by_lines (pieces p) (take count F) = ap (fetched_by_lines (pieces p)) kept_are ∙ told_counts (pieces p) (take count F) in
        let most = sum_by-take-le (fetched_by (pieces p)) (take count F) (i + 1) in
        let prefix = ap (fetched_by_lines (pieces p)) (take-take (i + 1) count F (omega (arith, kept))) in
        omega (arith, few, same, most, prefix);
  }
    where
      near_at : (xs : List FetchLine) (i : ℕ) (x : FetchLine) → slice_get xs i ≡ Some x → AllByRecursion (LineIsNear (pieces p)) (map told_line xs) → LineIsNear (pieces p) x
      near_at [] i x e h = absurd (cc e)
      near_at (y ∷ ys) zero x e h = subst (LineIsNear (pieces p)) (some_same y x e) h.0
      near_at (y ∷ ys) (suc i) x e h = near_at ys i x e h.1

      taken : (n : ℕ) (xs : List FetchLine) (i : ℕ) (x : FetchLine) → i < n → slice_get xs i ≡ Some x → slice_get (take n xs) i ≡ Some x
      taken zero xs i x less e = absurd (omega (arith, less))
      taken (suc n) [] i x less e = e
      taken (suc n) (y ∷ ys) zero x less e = e
      taken (suc n) (y ∷ ys) (suc i) x less e = taken n ys i x (omega (arith, less)) e

  kept_below : (n : ℕ) → n < length Kept → n < count
  kept_below n less = let same = ap length (noted_first [] held count) in let most = length-take count (lines_noted held) in omega (arith, less, same, most)

  pub below : (js : List Piece) (place : ℕ) → IsFirstWrong js Kept place → place < count
  below js place h = elim h [
    | inl f ↦ kept_below place (get_within Kept place f.0.line f.0.stands)
    | inr f ↦ kept_below place f.1.within
  ]

  -- the first of those that are kept at which something is wrong is the first of all, and stands before the line
  module _ (place : ℕ) (x : LineHeld) (is : x ≡ get_or held place x) where
    far_of_all : IsFirstFar (pieces p) Kept place → IsFirstFar (pieces p) (lines_noted held) place
    far_of_all far =
        let first = noted_first [] held count in
        let stands : slice_get (take count (lines_noted held)) place ≡ Some far.line = ap (λ (xs : List FetchLine). slice_get xs place) (sym first) ∙ far.stands in
        let less = get_within (take count (lines_noted held)) place far.line stands in
        let most = length-take count (lines_noted held) in
        record {
          line = far.line;
          stands = untaken count (lines_noted held) place far.line stands;
          near = All-same (LineIsNear (pieces p)) (take place (lines_noted held)) (take place Kept)
              (sym (ap (λ (xs : List FetchLine). take place xs) first ∙ take-take place count (lines_noted held) (omega (arith, less, most)))) far.near;
          far = far.far;
        }
      where
        untaken : (n : ℕ) (xs : List FetchLine) (i : ℕ) (z : FetchLine) → slice_get (take n xs) i ≡ Some z → slice_get xs i ≡ Some z
        untaken zero xs i z e = absurd (cc e)
        untaken (suc n) [] i z e = e
        untaken (suc n) (y ∷ ys) zero z e = e
        untaken (suc n) (y ∷ ys) (suc i) z e = untaken n ys i z e

    before_line : place < count → x.line < line
    before_line less =
        let some = within in
        let here = noted_at p held all place x (omega (arith, less, some)) is in
        let ahead = stand.ahead place (line_of x) (let most = length-take count (lines_noted held) in omega (arith, less, some, most, noted)) in
        let at = taken_at count (lines_noted held) place (line_of x) less in
        let same = ap (λ (y : FetchLine). y.line) (at ∙ held_at held place x (omega (arith, less, some)) is) in
        omega (arith, ahead, same)

    pub wrong_line : IsFirstWrong (pieces p) Kept place → FetchIsWrong p x.line × (x.line < line)
    wrong_line h = let less = below (pieces p) place h in (
      elim h [
        | inl f ↦ inl (far_fetch p held all (pieces p) refl place x is (far_of_all f.0)
            (let few = f.1 in
            let same = ap (fetched_by_lines (pieces p)) (ap (λ (xs : List FetchLine). take place xs) (noted_first [] held count) ∙ take-take place count (lines_noted held) (omega (arith, less))) in
            omega (arith, few, same)))
        | inr f ↦ inr (past_fetch p held all (pieces p) refl place x is
            (All-same (LineIsNear (pieces p)) (take place (lines_noted held)) (take place Kept)
            (sym (ap (λ (xs : List FetchLine). take place xs) (noted_first [] held count) ∙ take-take place count (lines_noted held) (omega (arith, less)))) f.0)
            (past_first (pieces p) held count place f.1))
      ],
      before_line less,
    )

  -- ---- what code asks and tells

  module _ (read : AreReadBefore p line) where
    pub limited : All LineIsLimited Kept
    limited = all_kept LineIsLimited (λ k x at early. (read k x at early).limits)

    pub few_pieces : All (λ x. first_piece p.groups (x.group + 1) ≤ 2 ^ 20) Kept
    few_pieces = all_kept (λ x. first_piece p.groups (x.group + 1) ≤ 2 ^ 20) (λ k x at early. (read k x at early).pieces)

  pub of_groups : All (λ x. x.group < length p.groups) Kept
  of_groups =
      all_kept (λ x. x.group < length p.groups)
      (λ k x at early. all_at_place (λ (y : FetchLine). y.group < length p.groups) F k x at
      (All-from_recursion (λ (y : FetchLine). y.group < length p.groups) F (groups_below p 0 (length p.groups) p.groups (omega arith))))

  module _ (groups : ℕ) (counted : IsGroupCount Kept groups) where
    pub told_stand : AreRead (pieces_from 0 (take groups p.groups)) Kept → FetchLinesStand p line
    told_stand h = stand_all (read_all p groups Kept counted.within h)

    pub told_wrong : (place : ℕ) (x : LineHeld) → x ≡ get_or held place x → IsFirstWrong (pieces_from 0 (take groups p.groups)) Kept place → FetchIsWrong p x.line × (x.line < line)
    told_wrong place x is h = wrong_line place x is (wrong_all p groups Kept counted.within place h)
