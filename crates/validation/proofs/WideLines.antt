-- Lines of groups with a form out of the limits.
use Rattle.std.proofs.Common.{◌≡◌, ℕ, ◌<◌, Bool, false, sym, arith, inl, inr}
use Rattle.std.proofs.lemmas.Bool.{false≢true}
use Rattle.lin.specs.Forms.{is_within_limits}
use Rattle.meaning.specs.Algorithm.{Algorithm}
use Rattle.plan.specs.declared.stmt.Places.{Places}
use Rattle.plan.specs.declared.stmt.Places.TheVariants.{From, Folded}
use Rattle.plan.specs.Plan.{Index, At, Found, Coordinate, Statement, Seq, For, Let, First, Guard, Alloc, Fetch, Store, Publish, Group, Plan}
use Rattle.plan.specs.Lines.{group_line}
use Rattle.plan.specs.Certificate.Certificate.{Certificate}
use Rattle.soundness.specs.Origins.{Outline}
use Rattle.soundness.specs.Given.{outline_of}
use Rattle.soundness.specs.Outline.Flaws.{first_of, line_told}
use Rattle.validation.specs.Told.{IsTold}
use Rattle.validation.specs.Wide.{RegionIsWide}
use Rattle.validation.specs.Stored.Stored.{index_is_within}
use Rattle.validation.specs.Groups.Lines.{Here, place_is_within, flaws_of_groups}
use Rattle.validation.specs.Groups.Wrong.{OriginIsWide, IndexIsWide, HasWide, IsWideAt}
use Rattle.validation.proofs.Told.{Tests, on_either, forms_are, forms_so, told_twice, told_again}
use Rattle.validation.proofs.Wide.{and_fails, fails_left, fails_right, any_fails, all_fail, form_is_wide, wide_form, forms_are_wide, wide_forms, span_is_wide, wide_span, region_is_wide, wide_region}
use Rattle.validation.proofs.GroupsTold.{tests, codes, head_tests, cells_at, pieces_at, lines_told}

origin_is_wide : (x : Places) → place_is_within x ≡ false → OriginIsWide x
origin_is_wide (From form n) h = form_is_wide form h
origin_is_wide (Folded n) h = absurd (false≢true (sym h))

wide_origin : (x : Places) → OriginIsWide x → place_is_within x ≡ false
wide_origin (From form n) h = wide_form form h
wide_origin (Folded n) h = absurd h

index_is_wide : (x : Index) → index_is_within x ≡ false → IndexIsWide x
index_is_wide (At form) h = form_is_wide form h
index_is_wide (Found e) h = absurd (false≢true (sym h))

wide_index : (x : Index) → IndexIsWide x → index_is_within x ≡ false
wide_index (At form) h = wide_form form h
wide_index (Found e) h = absurd h

abbrev within : Coordinate → Bool
within x = index_is_within x.index

abbrev Wide : Coordinate → Type 0
Wide x = IndexIsWide x.index

module _ (a : Algorithm) (p : Plan) (c : Certificate) (g : Group) (o : Outline) where
  abbrev forms : Statement → Here → Bool
  forms s here = (tests a p c g o s here).forms

  wide_is : (s : Statement) (here : Here) → forms s here ≡ false → HasWide s
  wide_is (Seq all) here h = absurd (false≢true (sym h))
  wide_is (For i x kind body) here h = span_is_wide x h
  wide_is (Let i pick fs) here h = forms_are_wide fs h
  wide_is (First i s t) here h = absurd (false≢true (sym h))
  wide_is (Guard low high body) here h = on_either (and_fails (is_within_limits low) (is_within_limits high) h) (λ e. inl (form_is_wide low e)) (λ e. inr (form_is_wide high e))
  wide_is (Alloc b f places) here h = any_fails place_is_within OriginIsWide origin_is_wide places h
  wide_is (Fetch b q region) here h = region_is_wide region h
  wide_is (Store b k at e) here h = any_fails within Wide (λ x. index_is_wide x.index) at h
  wide_is (Publish k) here h = absurd (false≢true (sym h))

  wide_so : (s : Statement) (here : Here) → HasWide s → forms s here ≡ false
  wide_so (Seq all) here h = absurd h
  wide_so (For i x kind body) here h = wide_span x h
  wide_so (Let i pick fs) here h = wide_forms fs h
  wide_so (First i s t) here h = absurd h
  wide_so (Guard low high body) here (inl h) = fails_left (is_within_limits low) (is_within_limits high) (wide_form low h)
  wide_so (Guard low high body) here (inr h) = fails_right (is_within_limits low) (is_within_limits high) (wide_form high h)
  wide_so (Alloc b f places) here h = all_fail place_is_within OriginIsWide wide_origin places h
  wide_so (Fetch b q region) here h = wide_region region h
  wide_so (Store b k at e) here h = all_fail within Wide (λ x. wide_index x.index) at h
  wide_so (Publish k) here h = absurd h

module _ (a : Algorithm) (p : Plan) (c : Certificate) where
  abbrev head : ℕ → Group → Tests
  head n g = head_tests a p c n g (cells_at p.groups n 0) (pieces_at p.groups n 0)

  abbrev line : ℕ → Group → Statement → Here → Tests
  line n g s here = tests a p c g (outline_of p c n g) s here

  abbrev Wide_in : ℕ → Group → Statement → Here → Type 0
  Wide_in n g s here = HasWide s

  past_three : (n : ℕ) (g : Group) (s : Statement) (here : Here) → 3 < (line n g s here).code
  past_three n g s here = let e = (codes a p c g (outline_of p c n g) s here).0 in omega (arith, e)

  pub wide_told : IsTold 3 (IsWideAt p) (first_of (flaws_of_groups a p c))
  wide_told = lines_told a p c 3 (λ n g. RegionIsWide g.region) Wide_in
      (λ l n g at h. let t = forms_are (head n g) (line_told (group_line p n)) l (omega arith) h in (told_twice (group_line p n) l t.0, region_is_wide g.region t.1))
      (λ l n g s here h. let t = forms_are (line n g s here) here.line l (past_three n g s here) h in (t.0, wide_is a p c g (outline_of p c n g) s here t.1))
      (λ l n g at is h. forms_so (head n g) (line_told (group_line p n)) l (told_again (group_line p n) l is) (wide_region g.region h))
      (λ l n g s here h. forms_so (line n g s here) here.line l h.0 (wide_so a p c g (outline_of p c n g) s here h.1))
