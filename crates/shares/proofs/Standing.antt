-- What holds where nothing is wrong at own lines.
use Rattle.std.proofs.Common.{◌≡◌, ℕ, suc, ◌+◌, ◌-◌, ◌^◌, ◌<◌, ◌≤◌, List, [], ◌∷◌, length, length-append, map, min, get_or, Bool, true, false, cond, arith, ap, refl, sym, ◌∙◌, subst, Option, Some, None, inl, inr}
use Rattle.std.specs.Prelude.{All, IsTrue, ℤ, slice_get, MatchOption, ◌⊎◌}
use Rattle.std.proofs.lemmas.Bool.{cases_lt, false≢true}
use Rattle.std.proofs.lemmas.List.{length-map}
use Rattle.plan.specs.Plan.{Group, Plan}
use Rattle.plan.specs.Certificate.Certificate.{Certificate}
use Rattle.plan.specs.Certificate.Cells.{Piece, cell, cells, cells_from, pieces, group_points, own_region, first_cell}
use Rattle.orders.specs.Work.{OwnIsWhole}
use Rattle.soundness.specs.declared.outline.refusals.code.Flaw.{Flaw}
use Rattle.soundness.specs.Outline.Refusals.Codes.{is_before, least}
use Rattle.soundness.specs.declared.outline.refusals.code.K.{K}
use Rattle.soundness.specs.declared.outline.refusals.code.K.TheVariants.{K1, K2, K3, K4, K5, K6, K7, K8, K9, K10, K11, K12, K13, K14}
use Rattle.headline.specs.Numbers.{has_point}
use Rattle.headline.proofs.Places.{piece_from}
use Rattle.shares.specs.declared.answer.SharesError.{SharesError}
use Rattle.shares.specs.declared.answer.SharesError.TheVariants.{Flaw as Told, Memory}
use Rattle.shares.specs.Layout.{own_list, OwnIsInside, PieceIsInside, region_points}
use Rattle.shares.specs.Made.{CodeMeans, StandsAt, FlawMeans, OwnCode, IsOwnFlaw, IsFirstOwn, LineMeans, LinesStand, owns_line, line_at, Holds, ErrorMeans}
use Rattle.shares.specs.Counts.{FetchPasses}
use Rattle.shares.specs.Has.{fetched_before}
use Rattle.shares.specs.Owned.{AreOwners, IsFirstFlaw, IsLeft}
use Rattle.shares.specs.declared.owners.Owned.{Owned}
use Rattle.shares.proofs.Firsts.{not_on}
use Rattle.shares.proofs.Groups.{get_within}

stable : (b : Bool) → ((IsTrue b → ⊥) → ⊥) → IsTrue b
stable true h = refl
stable false h = absurd (h (λ e. false≢true e))

stable_all : (f : List ℤ → Bool) (qs : List (List ℤ)) → ((All (λ q. IsTrue (f q)) qs → ⊥) → ⊥) → All (λ q. IsTrue (f q)) qs
stable_all f qs h k d less = stable (f (get_or qs k d)) (λ no. h (λ all. no (all k d less)))

-- the group that has a cell
located : (k : ℕ) (gs : List Group) (x : ℕ) → x < length (cells_from k gs) → (n : ℕ) × (n < length gs) × (first_cell gs n ≤ x) × (x < first_cell gs (suc n))
located k [] x less = absurd (omega (arith, less))
located k (g ∷ gs) x less = elim (cases_lt x (length (group_points g))) [
  | inl here ↦ (0, omega arith, omega arith, omega (arith, here))
  | inr from ↦
      let long = length-append (map (cell k) (group_points g)) (cells_from (k + 1) gs) in
      let row = length-map (group_points g) (cell k) in
      let rest = located (k + 1) gs (x - length (group_points g)) (omega (arith, less, from, long, row)) in
      (suc rest.0, (let a = rest.1 in omega (arith, a)), (let a = rest.2 in omega (arith, a, from)), (let a = rest.3 in omega (arith, a, from)))
]

module _ (p : Plan) (c : Certificate) (none : (f : Flaw) → ¬ IsOwnFlaw p c (length p.groups) f) where
  abbrev line_of : ℕ → ℕ
  line_of n = min (owns_line p c n) (2 ^ 32 - 1)

  inside_at : (i : ℕ) (o : Option Piece) → slice_get (pieces p) i ≡ o → PieceIsInside p c o
  inside_at i None at = tt
  inside_at i (Some j) at =
      let k = piece_from p i j at in
      let less = get_within p.groups j.group k.g k.group in
      stable_all (has_point (slice_get p.groups j.group)) (region_points (own_region c.own j.group) j)
      (λ not. none (record { code = K10; line = line_of j.group }) (j.group, less, inl (i, subst (λ (o : Option Piece). MatchOption o ⊥ (λ x. x.group ≡ j.group)) (sym at) refl, λ inside. not (subst (PieceIsInside p c) at inside)), refl))

  -- own regions stay inside
  pub all_inside : (i : ℕ) → OwnIsInside p c i
  all_inside i = inside_at i (slice_get (pieces p) i) refl

  none_left : (x : ℕ) → ¬ IsLeft p c x
  none_left x left =
      let n = located 0 p.groups x left.0 in
      let one : suc n.0 ≡ n.0 + 1 = omega arith in
      none (record { code = K10; line = line_of n.0 }) (n.0, n.1, inr (x, n.2, subst (λ (m : ℕ). x < first_cell p.groups m) one n.3, left.1), refl)

  owned_by : (x : Owned) → AreOwners p c x → (b : Bool) → x.whole ≡ b → OwnIsWhole (length (pieces p)) (length (cells p)) (own_list p c)
  owned_by x of true e = of.whole e
  owned_by x of false e = let left = of.gap e in absurd (none_left left.0 left.1)

  -- and each cell is some piece's own
  pub all_owned : (x : Owned) → AreOwners p c x → OwnIsWhole (length (pieces p)) (length (cells p)) (own_list p c)
  all_owned x of = owned_by x of x.whole refl

  -- so no flaw is told after one at an own line
  pub holds_first : (e : SharesError) → Holds p c e → ErrorMeans p c e
  holds_first (Told f) h = inl (h, λ g own. absurd (none g own))
  holds_first Memory h = tt

-- ---- the first of fetch lines and own lines

module _ (p : Plan) (c : Certificate) where
  own_code_means : (n : ℕ) (k : K) (line : ℕ) → OwnCode p c n k → line ≡ min (owns_line p c n) (2 ^ 32 - 1) → CodeMeans p c n k × StandsAt p c n k line
  own_code_means n K1 line h at = absurd h
  own_code_means n K2 line h at = absurd h
  own_code_means n K3 line h at = absurd h
  own_code_means n K4 line h at = absurd h
  own_code_means n K5 line h at = absurd h
  own_code_means n K6 line h at = absurd h
  own_code_means n K7 line h at = absurd h
  own_code_means n K8 line h at = absurd h
  own_code_means n K9 line h at = (h, at)
  own_code_means n K10 line h at = (h, at)
  own_code_means n K11 line h at = (h.1, at ∙ ap (λ (o : Option ℕ). min (line_at p c n o) (2 ^ 32 - 1)) (sym h.0))
  own_code_means n K12 line h at = absurd h
  own_code_means n K13 line h at = absurd h
  own_code_means n K14 line h at = absurd h

  pub own_means : (groups : ℕ) (f : Flaw) → IsOwnFlaw p c groups f → FlawMeans p c f
  own_means groups f h = let k = own_code_means h.0 f.code f.line h.2 h.3 in inl (h.0, k.0, k.1)

  abbrev groups : ℕ
  groups = length p.groups

  abbrev Told14 : Flaw → Type 0
  Told14 f = (f.code ≡ K14) × FetchPasses p c f.line

  abbrev IsLine : Flaw → Type 0
  IsLine f = IsOwnFlaw p c groups f ⊎ Told14 f

  lesser_line : (b : Bool) (f g : Flaw) → IsLine f → IsLine g → IsLine (cond b g f)
  lesser_line true f g h k = k
  lesser_line false f g h k = h

  lesser_first : (b : Bool) (f g : Flaw) → is_before g f ≡ b → IsFirstOwn p c groups g → IsFirstOwn p c groups (cond b g f)
  lesser_first true f g e first h own = first h own
  lesser_first false f g e first h own = not_on f g h e (first h own)

  first_of : (fetched own : Option Flaw) → MatchOption fetched (fetched_before p (length (pieces p)) ≤ 2 ^ 26) Told14 → IsFirstFlaw p c groups own →
      MatchOption (least fetched own) (LinesStand p c) (LineMeans p c)
  first_of None None few none = record { fetched = few; own = none }
  first_of None (Some g) few first = (inl first.0, first.1)
  first_of (Some f) None past none = (inr past, λ g own. absurd (none g own))
  first_of (Some f) (Some g) past first = (lesser_line (is_before g f) f g (inr past) (inl first.0), lesser_first (is_before g f) f g refl first.1)

  pub first_line : (fetched own found : Option Flaw) → MatchOption fetched (fetched_before p (length (pieces p)) ≤ 2 ^ 26) Told14 → IsFirstFlaw p c groups own → found ≡ least fetched own →
      MatchOption found (LinesStand p c) (LineMeans p c)
  first_line fetched own found past first is = subst (λ (o : Option Flaw). MatchOption o (LinesStand p c) (LineMeans p c)) (sym is) (first_of fetched own past first)

  -- what stands at fetch lines and own lines is what is wrong
  pub line_error : (f : Flaw) → LineMeans p c f → ErrorMeans p c (Told f)
  line_error f h = elim h.0 [
    | inl own ↦ inl (own_means groups f own, h.1)
    | inr past ↦ inl (inr (past.0, inl past.1), h.1)
  ]
