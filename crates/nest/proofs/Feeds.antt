-- No line that fits has a line feed in its text.
use Rattle.std.proofs.Common.{◌≡◌, ℕ, Bool, true, false, not, ◌&&◌, List, [], ◌∷◌, ◌++◌, refl, arith}
use Rattle.std.specs.Prelude.{◌==◌, codes, nat_lt, length}
use Rattle.std.specs.List.{flat_map, list_all}
use Rattle.std.proofs.lemmas.Bool.Decides.{nat_tests}
use Rattle.plan.specs.declared.stmt.Kind.{Kind}
use Rattle.plan.specs.declared.stmt.Kind.TheVariants as kind
use Rattle.plan.specs.declared.stmt.Pick.{Pick}
use Rattle.plan.specs.declared.stmt.Pick.TheVariants as pick
use Rattle.plan.specs.declared.stmt.Places.{Places}
use Rattle.plan.specs.declared.stmt.Places.TheVariants as places
use Rattle.plan.specs.Plan.{Declaration, Index, At, Found, Coordinate}
use Rattle.tree.specs.Token.Spelling.{type_text}
use Rattle.spelling.specs.Words.Spelling.{count_text, symbol_text, separated_text, form_text, forms_text, span_text, region_text, counts_text}
use Rattle.spelling.specs.Words.Fitting.{fits_count, fits_symbol, fits_form, fits_forms, fits_span, fits_region, is_name}
use Rattle.spelling.specs.Sizes.Sizes.{fits_size, fits_sizes}
use Rattle.spelling.proofs.SizesSizes.{size_feedless, sizes_feedless}
use Rattle.spelling.specs.Words.Laws.{is_feedless, IsFeedless}
use Rattle.spelling.proofs.Feeds.{joined, count_feedless, symbol_feedless, form_feedless, forms_feedless, span_feedless, region_feedless, name_feedless, type_feedless}
use Rattle.spelling.specs.Terms.Spelling as terms
use Rattle.spelling.specs.Terms.Fitting as terms_fit
use Rattle.spelling.specs.Terms.Laws.{TermIsPlain, is_plain}
use Rattle.nest.specs.Blocks.Line.{Line, PlanLine, InputLine, OutputLine, GroupLine, ForLine, LetLine, FirstLine, ElseLine, GuardLine, EndLine, AllocLine, FetchLine, StoreLine, PublishLine}
use Rattle.nest.specs.Spelling.{kind_text, pick_text, declaration_text, place_text, places_text, index_text, coordinate_text, spaced_coordinate, input_text, output_text, group_text, for_text, let_text, guard_text, alloc_text, fetch_text, store_text, line_text}
use Rattle.nest.specs.Fitting.{fits_declaration, fits_place, fits_index, fits_coordinate, fits_line}

both : (a b : Bool) → (a && b) ≡ true → (a ≡ true) × (b ≡ true)
both true b h = (refl, h)
both false b h = absurd cc

-- ---- parts behind signs

plain_byte : (b : ℕ) → is_plain b ≡ true → not (b == 10) ≡ true
plain_byte b h = grind (arith, nat_tests)

plain_feedless : (bytes : List ℕ) → list_all is_plain bytes ≡ true → is_feedless bytes ≡ true
plain_feedless [] h = refl
plain_feedless (b ∷ bytes) h = let p = both (is_plain b) (list_all is_plain bytes) h in rw (plain_byte b p.0, plain_feedless bytes p.1) refl

separated_feedless : {X : Type 0} (separator : ℕ) (fits : X → Bool) (text : X → List ℕ) → not (separator == 10) ≡ true → IsFeedless fits text → (xs : List X) → list_all fits xs ≡ true → is_feedless (separated_text separator text xs) ≡ true
separated_feedless separator fits text other part [] h = refl
separated_feedless separator fits text other part (x ∷ []) h = part x (both (fits x) true h).0
separated_feedless separator fits text other part (x ∷ y ∷ ys) h =
    let p = both (fits x) (list_all fits (y ∷ ys)) h in
    let rest : is_feedless (separator ∷ separated_text separator text (y ∷ ys)) ≡ true = rw (other, separated_feedless separator fits text other part (y ∷ ys) p.1) refl in
    joined (text x) (separator ∷ separated_text separator text (y ∷ ys)) (part x p.0) rest

place_feedless : IsFeedless fits_place place_text
unfolding place_text
place_feedless (places.From origin count) fits =
    let p = both (fits_form origin) (fits_size count) fits in
    joined (form_text origin) (35 ∷ count_text count) (form_feedless origin p.0) (size_feedless count p.1)
place_feedless (places.Folded count) fits = size_feedless count fits

places_feedless : (all : List Places) → list_all fits_place all ≡ true → is_feedless (places_text all) ≡ true
unfolding places_text
places_feedless all fits = joined (separated_text 59 place_text all) (93 ∷ []) (separated_feedless 59 fits_place place_text refl place_feedless all fits) refl

kind_feedless : (k : Kind) → is_feedless (kind_text k) ≡ true
kind_feedless kind.Serial = refl
kind_feedless kind.Unroll = refl
kind_feedless kind.Vector = refl

pick_feedless : (p : Pick) → is_feedless (pick_text p) ≡ true
pick_feedless pick.Min = refl
pick_feedless pick.Max = refl

declaration_feedless : (d : Declaration) → fits_declaration d ≡ true → is_feedless (declaration_text d) ≡ true
unfolding declaration_text
declaration_feedless d fits =
    let p = both (is_name d.name) (fits_sizes d.extents) fits in
    joined d.name (32 ∷ (type_text d.ty ++ (32 ∷ counts_text d.extents))) (name_feedless d.name p.0) (joined (type_text d.ty) (32 ∷ counts_text d.extents) (type_feedless d.ty refl) (sizes_feedless d.extents p.1))

module _ (term_plain : TermIsPlain) where
  index_feedless : (i : Index) → fits_index i ≡ true → is_feedless (index_text i) ≡ true
  unfolding index_text
  index_feedless (At form) fits = form_feedless form fits
  index_feedless (Found term) fits = plain_feedless (terms.term_text term) (term_plain term fits)

  coordinate_feedless : (c : Coordinate) → fits_coordinate c ≡ true → is_feedless (spaced_coordinate c) ≡ true
  unfolding coordinate_text
  coordinate_feedless c fits =
      let p = both (is_name c.variable) (fits_index c.index) fits in
      joined (c.variable ++ index_text c.index) (32 ∷ []) (joined c.variable (index_text c.index) (name_feedless c.variable p.0) (index_feedless c.index p.1)) refl

  coordinates_feedless : (at : List Coordinate) → list_all fits_coordinate at ≡ true → is_feedless (flat_map spaced_coordinate at) ≡ true
  coordinates_feedless [] fits = refl
  coordinates_feedless (c ∷ at) fits =
      let p = both (fits_coordinate c) (list_all fits_coordinate at) fits in
      joined (spaced_coordinate c) (flat_map spaced_coordinate at) (coordinate_feedless c p.0) (coordinates_feedless at p.1)

  -- the text of a line that fits is one line
  pub line_feedless : (l : Line) → fits_line l ≡ true → is_feedless (line_text l) ≡ true
  unfolding input_text output_text group_text for_text let_text guard_text alloc_text fetch_text store_text
  line_feedless (PlanLine name) fits = name_feedless name fits
  line_feedless (InputLine d) fits = declaration_feedless d fits
  line_feedless (OutputLine d) fits = declaration_feedless d fits
  line_feedless (GroupLine n f region grid) fits =
      let four = both (fits_count n && is_name f && fits_region region && nat_lt 0 (length grid)) (fits_sizes grid) fits in
      let three = both (fits_count n && is_name f && fits_region region) (nat_lt 0 (length grid)) four.0 in
      let two = both (fits_count n && is_name f) (fits_region region) three.0 in
      let one = both (fits_count n) (is_name f) two.0 in
      let after_grid = codes " grid " ++ separated_text 32 count_text grid in
      let last : is_feedless after_grid ≡ true = separated_feedless 32 fits_size count_text refl size_feedless grid four.1 in
      joined (count_text n) (32 ∷ (f ++ (32 ∷ (region_text region ++ after_grid)))) (count_feedless n one.0)
      (joined f (32 ∷ (region_text region ++ after_grid)) (name_feedless f one.1) (joined (region_text region) after_grid (region_feedless region two.1) last))
  line_feedless (ForLine i span k) fits =
      let one = both (fits_symbol i) (fits_span span) fits in
      joined (symbol_text i) (32 ∷ (span_text span ++ (32 ∷ kind_text k))) (symbol_feedless i one.0) (joined (span_text span) (32 ∷ kind_text k) (span_feedless span one.1) (kind_feedless k))
  line_feedless (LetLine i p forms) fits =
      let one = both (fits_symbol i) (fits_forms forms) fits in
      joined (symbol_text i) (32 ∷ (pick_text p ++ (32 ∷ forms_text forms))) (symbol_feedless i one.0) (joined (pick_text p) (32 ∷ forms_text forms) (pick_feedless p) (forms_feedless forms one.1))
  line_feedless (FirstLine i) fits = symbol_feedless i fits
  line_feedless ElseLine fits = refl
  line_feedless (GuardLine low high) fits =
      let one = both (fits_form low) (fits_form high) fits in
      joined (form_text low) (codes "<=" ++ form_text high) (form_feedless low one.0) (form_feedless high one.1)
  line_feedless EndLine fits = refl
  line_feedless (AllocLine b f all) fits =
      let two = both (fits_size b && is_name f) (list_all fits_place all) fits in
      let one = both (fits_size b) (is_name f) two.0 in
      joined (count_text b) (32 ∷ (f ++ (32 ∷ places_text all))) (size_feedless b one.0) (joined f (32 ∷ places_text all) (name_feedless f one.1) (places_feedless all two.1))
  line_feedless (FetchLine b g region) fits =
      let two = both (fits_size b && fits_size g) (fits_region region) fits in
      let one = both (fits_size b) (fits_size g) two.0 in
      joined (count_text b) (32 ∷ (count_text g ++ (32 ∷ region_text region))) (size_feedless b one.0) (joined (count_text g) (32 ∷ region_text region) (size_feedless g one.1) (region_feedless region two.1))
  line_feedless (StoreLine b k at e) fits =
      let three = both (fits_size b && fits_size k && list_all fits_coordinate at) (terms_fit.fits_term e) fits in
      let two = both (fits_size b && fits_size k) (list_all fits_coordinate at) three.0 in
      let one = both (fits_size b) (fits_size k) two.0 in
      let tail = flat_map spaced_coordinate at ++ terms.term_text e in
      joined (count_text b) (32 ∷ (count_text k ++ (32 ∷ tail))) (size_feedless b one.0)
      (joined (count_text k) (32 ∷ tail) (size_feedless k one.1) (joined (flat_map spaced_coordinate at) (terms.term_text e) (coordinates_feedless at two.1) (plain_feedless (terms.term_text e) (term_plain e three.1))))
  line_feedless (PublishLine c) fits = size_feedless c fits
