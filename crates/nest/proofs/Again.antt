-- What is written for a line is read as that line.
use Rattle.std.proofs.Common.{◌≡◌, ℕ, zero, suc, ◌≤◌, ◌<◌, Bool, true, false, ◌&&◌, ◌||◌, List, [], ◌∷◌, ◌++◌, length, refl, sym, ap, ◌∙◌, append_assoc, arith, length-append}
use Rattle.std.specs.Prelude.{slice_index, codes, ◌==◌, nat_lt}
use Rattle.std.specs.List.{flat_map, list_all}
use Rattle.std.proofs.lemmas.List.{append-nil}
use Rattle.std.proofs.lemmas.Bool.Decides.{nat_tests}
use Rattle.tree.specs.Term.{Term}
use Rattle.lin.specs.Forms.{Form}
use Rattle.lin.specs.declared.span.Span1.{Span1}
use Rattle.plan.specs.declared.stmt.Kind.{Kind}
use Rattle.plan.specs.declared.stmt.Kind.TheVariants as kind
use Rattle.plan.specs.declared.stmt.Pick.{Pick}
use Rattle.plan.specs.declared.stmt.Pick.TheVariants as pick
use Rattle.plan.specs.declared.stmt.Places.{Places}
use Rattle.plan.specs.declared.stmt.Places.TheVariants as places
use Rattle.plan.specs.Plan.{Declaration, Index, At, Found, Coordinate}
use Rattle.tree.specs.Token.Spelling.{type_text, is_digit, is_word_byte}
use Rattle.spelling.specs.Words.Spelling.{count_text, symbol_text, separated_text, form_text, forms_text, span_text, region_text, counts_text}
use Rattle.spelling.specs.Words.Fitting.{fits_count, fits_symbol, fits_form, fits_forms, fits_span, fits_region, is_name}
use Rattle.spelling.specs.Sizes.Sizes.{fits_size, fits_sizes, size_from, sizes_from}
use Rattle.spelling.proofs.SizesSizes.{size_again, sizes_again, size_first}
use Rattle.spelling.specs.Words.Reading.{Stops, begins, is_form_byte, is_forms_byte, no_byte, count_from, symbol_from, form_from, forms_from, region_from, name_from, separated_from, bracketed_from}
use Rattle.spelling.specs.Words.Laws.{ReadsAgain}
use Rattle.spelling.proofs.WordsAgain.{count_again, symbol_again, form_again, forms_again, span_again, region_again, name_again, type_again, separated_again, separated_many, form_first}
use Rattle.spelling.specs.Terms.Spelling as terms
use Rattle.spelling.specs.Terms.Fitting as terms_fit
use Rattle.spelling.specs.Terms.Reading as terms_read
use Rattle.spelling.specs.Terms.Laws.{TermIsReadAgain, TermIsPlain, is_plain}
use Rattle.nest.specs.Blocks.Line.{Line, PlanLine, InputLine, OutputLine, GroupLine, ForLine, LetLine, FirstLine, ElseLine, GuardLine, EndLine, AllocLine, FetchLine, StoreLine, PublishLine}
use Rattle.nest.specs.Spelling.{kind_text, pick_text, declaration_text, place_text, places_text, index_text, coordinate_text, spaced_coordinate, input_text, output_text, group_text, for_text, let_text, guard_text, alloc_text, fetch_text, store_text, line_text}
use Rattle.nest.specs.Fitting.{fits_declaration, fits_place, fits_index, fits_coordinate, fits_line}
use Rattle.nest.specs.Reading.{kind_of, declaration_from, place_from, places_from, index_from, coordinate_from, has_blank, coordinates_from, group_from, for_from, let_from, guard_from, alloc_from, fetch_from, store_from, line_from}

both : (a b : Bool) → (a && b) ≡ true → (a ≡ true) × (b ≡ true)
both true b h = (refl, h)
both false b h = absurd cc

-- what is read again before any rest is read again at the end
at_end : {X : Type 0} (fits : X → Bool) (goes_on : ℕ → Bool) (text : X → List ℕ) (read : List ℕ → X × List ℕ) → ReadsAgain fits goes_on text read → goes_on 0 ≡ false → (x : X) → fits x ≡ true → read (text x) ≡ (x, [])
at_end fits goes_on text read again zero_stops x h = ap read (sym (append-nil (text x))) ∙ again x [] h zero_stops

kind_again : (k : Kind) → kind_of (kind_text k) ≡ k
kind_again kind.Serial = refl
kind_again kind.Unroll = refl
kind_again kind.Vector = refl

name_word : (f rest : List ℕ) → is_name f ≡ true → Stops is_word_byte rest → (name_from (f ++ rest)).0 ≡ f
name_word f rest h stop = ap (λ r. r.0) (name_again f rest h stop)

name_rest : (f rest : List ℕ) → is_name f ≡ true → Stops is_word_byte rest → (name_from (f ++ rest)).1 ≡ rest
name_rest f rest h stop = ap (λ r. r.1) (name_again f rest h stop)

-- ---- declarations

declaration_again : (d : Declaration) → fits_declaration d ≡ true → declaration_from (declaration_text d) ≡ d
unfolding declaration_from declaration_text
declaration_again d fits =
    let parts = both (is_name d.name) (fits_sizes d.extents) fits in
    let extents = at_end fits_sizes no_byte counts_text sizes_from sizes_again refl d.extents parts.1 in
    let after_name = 32 ∷ (type_text d.ty ++ (32 ∷ counts_text d.extents)) in
    rw (name_word d.name after_name parts.0 refl, name_rest d.name after_name parts.0 refl, type_again d.ty (32 ∷ counts_text d.extents) refl refl, extents) refl

-- ---- lists of which the parts begin with a digit, a sign or `%`

abbrev starts_place : ℕ → Bool
starts_place b = is_form_byte b || b == 37

place_byte_some : (bytes : List ℕ) → starts_place (slice_index (bytes ++ []) 0) ≡ true → 0 < length bytes
place_byte_some [] h = absurd cc
place_byte_some (b ∷ bytes) h = omega arith

place_byte_not_bracket : (b : ℕ) → starts_place b ≡ true → (b == 93) ≡ false
place_byte_not_bracket b h = grind (arith, nat_tests)

form_byte_no_percent : (b : ℕ) → is_form_byte b ≡ true → (b == 37) ≡ false
form_byte_no_percent b h = grind (arith, nat_tests)

form_byte_starts : (b : ℕ) → is_form_byte b ≡ true → starts_place b ≡ true
form_byte_starts b h = rw h refl

place_cut : (origin : Form) (count : ℕ) (rest : List ℕ) → (form_text origin ++ (35 ∷ count_text count)) ++ rest ≡ form_text origin ++ (35 ∷ (count_text count ++ rest))
place_cut origin count rest = append_assoc (form_text origin) (35 ∷ count_text count) rest

place_again : ReadsAgain fits_place is_digit place_text place_from
unfolding place_from place_text
place_again (places.From origin count) rest fits stops =
    let parts = both (fits_form origin) (fits_size count) fits in
    let tail = 35 ∷ (count_text count ++ rest) in
    let straight : begins 37 (form_text origin ++ tail) ≡ false = form_byte_no_percent (slice_index (form_text origin ++ tail) 0) (form_first origin tail parts.0) in
    rw (place_cut origin count rest, straight, form_again origin tail parts.0 refl, size_again count rest parts.1 stops) refl
place_again (places.Folded count) rest fits stops = rw (size_again count rest fits stops) refl

place_first : (p : Places) (rest : List ℕ) → fits_place p ≡ true → starts_place (slice_index (place_text p ++ rest) 0) ≡ true
unfolding place_text
place_first (places.From origin count) rest fits =
    let parts = both (fits_form origin) (fits_size count) fits in
    let tail = 35 ∷ (count_text count ++ rest) in
    rw (place_cut origin count rest) (form_byte_starts (slice_index (form_text origin ++ tail) 0) (form_first origin tail parts.0))
place_first (places.Folded count) rest fits = refl

places_cut : (x y : Places) (ys : List Places) (rest : List ℕ) → separated_text 59 place_text (x ∷ y ∷ ys) ++ rest ≡ place_text x ++ (59 ∷ (separated_text 59 place_text (y ∷ ys) ++ rest))
places_cut x y ys rest = append_assoc (place_text x) (59 ∷ separated_text 59 place_text (y ∷ ys)) rest

separated_first_place : (x : Places) (xs : List Places) (rest : List ℕ) → fits_place x ≡ true → starts_place (slice_index (separated_text 59 place_text (x ∷ xs) ++ rest) 0) ≡ true
separated_first_place x [] rest h = place_first x rest h
separated_first_place x (y ∷ ys) rest h = rw (places_cut x y ys rest) (place_first x (59 ∷ (separated_text 59 place_text (y ∷ ys) ++ rest)) h)

place_some : (x : Places) → fits_place x ≡ true → 0 < length (place_text x)
place_some x h = place_byte_some (place_text x) (place_first x [] h)

places_many : (xs : List Places) → list_all fits_place xs ≡ true → length xs ≤ length (separated_text 59 place_text xs)
places_many [] h = omega arith
places_many (x ∷ []) h = let one = both (fits_place x) true h in omega (arith, place_some x one.0)
places_many (x ∷ y ∷ ys) h =
    let one = both (fits_place x) (list_all fits_place (y ∷ ys)) h in
    omega (arith, places_many (y ∷ ys) one.1, length-append (place_text x) (59 ∷ separated_text 59 place_text (y ∷ ys)))

places_by_semicolons_again : (most : ℕ) (found : List Places) (x : Places) (xs : List Places) (rest : List ℕ) → length (x ∷ xs) ≤ most → list_all fits_place (x ∷ xs) ≡ true → Stops is_digit rest → begins 59 rest ≡ false
    → separated_from 59 place_from most found (separated_text 59 place_text (x ∷ xs) ++ rest) ≡ (found ++ x ∷ xs, rest)
unfolding separated_from
places_by_semicolons_again zero found x xs rest le h stop none = absurd (omega arith)
places_by_semicolons_again (suc most) found x [] rest le h stop none =
    let one = both (fits_place x) true h in
    rw (place_again x rest one.0 stop, none) refl
places_by_semicolons_again (suc most) found x (y ∷ ys) rest le h stop none =
    let one = both (fits_place x) (list_all fits_place (y ∷ ys)) h in
    let tail = separated_text 59 place_text (y ∷ ys) ++ rest in
    let more = places_by_semicolons_again most (found ++ x ∷ []) y ys rest (omega arith) one.1 stop none in
    rw (places_cut x y ys rest, place_again x (59 ∷ tail) one.0 refl) (more ∙ ap (λ (us : List Places). (us, rest)) (append_assoc found (x ∷ []) (y ∷ ys)))

places_again : ReadsAgain (list_all fits_place) no_byte places_text places_from
unfolding places_from places_text bracketed_from
places_again [] rest h stop = refl
places_again (x ∷ xs) rest h stop =
    let one = both (fits_place x) (list_all fits_place xs) h in
    let inner = separated_text 59 place_text (x ∷ xs) in
    let cut : (inner ++ 93 ∷ []) ++ rest ≡ inner ++ (93 ∷ rest) = append_assoc inner (93 ∷ []) rest in
    let inside : begins 93 (inner ++ (93 ∷ rest)) ≡ false = place_byte_not_bracket (slice_index (inner ++ (93 ∷ rest)) 0) (separated_first_place x xs (93 ∷ rest) one.0) in
    let room : length (x ∷ xs) ≤ suc (length (inner ++ (93 ∷ rest))) = omega (arith, places_many (x ∷ xs) h, length-append inner (93 ∷ rest)) in
    rw (cut, inside, places_by_semicolons_again (suc (length (inner ++ (93 ∷ rest)))) [] x xs (93 ∷ rest) room h refl refl) refl

-- ---- a grid

grid_at_end : (x : ℕ) (xs : List ℕ) → list_all fits_size (x ∷ xs) ≡ true → (separated_from 32 size_from (length (separated_text 32 count_text (x ∷ xs))) [] (separated_text 32 count_text (x ∷ xs))).0 ≡ x ∷ xs
grid_at_end x xs fits =
    let text = separated_text 32 count_text (x ∷ xs) in
    let room = separated_many 32 fits_size is_digit count_text size_from size_again refl size_first (x ∷ xs) fits in
    let read = separated_again 32 fits_size is_digit count_text size_from size_again refl size_first (length text) [] x xs [] room fits refl refl in
    ap (λ t. (separated_from 32 size_from (length text) [] t).0) (sym (append-nil text)) ∙ ap (λ r. r.0) read

grid_again : (grid : List ℕ) → nat_lt 0 (length grid) ≡ true → list_all fits_size grid ≡ true → (separated_from 32 size_from (length (separated_text 32 count_text grid)) [] (separated_text 32 count_text grid)).0 ≡ grid
grid_again [] some fits = absurd cc
grid_again (x ∷ xs) some fits = grid_at_end x xs fits

-- ---- lines of several parts

group_again : (n : ℕ) (f : List ℕ) (region : List Span1) (grid : List ℕ) → fits_line (GroupLine n f region grid) ≡ true → group_from (count_text n ++ (32 ∷ (f ++ (32 ∷ (region_text region ++ (codes " grid " ++ separated_text 32 count_text grid)))))) ≡ GroupLine n f region grid
unfolding group_from
group_again n f region grid fits =
    let four = both (fits_count n && is_name f && fits_region region && nat_lt 0 (length grid)) (fits_sizes grid) fits in
    let three = both (fits_count n && is_name f && fits_region region) (nat_lt 0 (length grid)) four.0 in
    let two = both (fits_count n && is_name f) (fits_region region) three.0 in
    let one = both (fits_count n) (is_name f) two.0 in
    let after_grid = codes " grid " ++ separated_text 32 count_text grid in
    let after_name = 32 ∷ (region_text region ++ after_grid) in
    rw (count_again n (32 ∷ (f ++ after_name)) one.0 refl, name_word f after_name one.1 refl, name_rest f after_name one.1 refl, region_again region after_grid two.1 refl, grid_again grid three.1 four.1) refl

for_again : (i : ℕ) (span : Span1) (k : Kind) → fits_line (ForLine i span k) ≡ true → for_from (symbol_text i ++ (32 ∷ (span_text span ++ (32 ∷ kind_text k)))) ≡ ForLine i span k
unfolding for_from
for_again i span k fits =
    let one = both (fits_symbol i) (fits_span span) fits in
    rw (symbol_again i (32 ∷ (span_text span ++ (32 ∷ kind_text k))) one.0 refl, span_again span (32 ∷ kind_text k) one.1 refl, kind_again k) refl

let_again : (i : ℕ) (p : Pick) (forms : List Form) → fits_line (LetLine i p forms) ≡ true → let_from (symbol_text i ++ (32 ∷ (pick_text p ++ (32 ∷ forms_text forms)))) ≡ LetLine i p forms
unfolding let_from
let_again i pick.Min forms fits =
    let one = both (fits_symbol i) (fits_forms forms) fits in
    rw (symbol_again i (32 ∷ (codes "min" ++ (32 ∷ forms_text forms))) one.0 refl, at_end fits_forms is_forms_byte forms_text forms_from forms_again refl forms one.1) refl
let_again i pick.Max forms fits =
    let one = both (fits_symbol i) (fits_forms forms) fits in
    rw (symbol_again i (32 ∷ (codes "max" ++ (32 ∷ forms_text forms))) one.0 refl, at_end fits_forms is_forms_byte forms_text forms_from forms_again refl forms one.1) refl

guard_again : (low high : Form) → fits_line (GuardLine low high) ≡ true → guard_from (form_text low ++ (codes "<=" ++ form_text high)) ≡ GuardLine low high
unfolding guard_from
guard_again low high fits =
    let one = both (fits_form low) (fits_form high) fits in
    rw (form_again low (codes "<=" ++ form_text high) one.0 refl, at_end fits_form is_form_byte form_text form_from form_again refl high one.1) refl

alloc_again : (b : ℕ) (f : List ℕ) (all : List Places) → fits_line (AllocLine b f all) ≡ true → alloc_from (count_text b ++ (32 ∷ (f ++ (32 ∷ places_text all)))) ≡ AllocLine b f all
unfolding alloc_from
alloc_again b f all fits =
    let two = both (fits_size b && is_name f) (list_all fits_place all) fits in
    let one = both (fits_size b) (is_name f) two.0 in
    rw (size_again b (32 ∷ (f ++ (32 ∷ places_text all))) one.0 refl, name_word f (32 ∷ places_text all) one.1 refl, name_rest f (32 ∷ places_text all) one.1 refl, at_end (list_all fits_place) no_byte places_text places_from places_again refl all two.1) refl

fetch_again : (b g : ℕ) (region : List Span1) → fits_line (FetchLine b g region) ≡ true → fetch_from (count_text b ++ (32 ∷ (count_text g ++ (32 ∷ region_text region)))) ≡ FetchLine b g region
unfolding fetch_from
fetch_again b g region fits =
    let two = both (fits_size b && fits_size g) (fits_region region) fits in
    let one = both (fits_size b) (fits_size g) two.0 in
    rw (size_again b (32 ∷ (count_text g ++ (32 ∷ region_text region))) one.0 refl, size_again g (32 ∷ region_text region) one.1 refl, at_end fits_region no_byte region_text region_from region_again refl region two.1) refl

-- ---- stores

either_true : (b : Bool) → (b || true) ≡ true
either_true true = refl
either_true false = refl

plain_no_blank : (b : ℕ) → is_plain b ≡ true → (b == 32) ≡ false
plain_no_blank b h = grind (arith, nat_tests)

no_blank : (bytes : List ℕ) → list_all is_plain bytes ≡ true → has_blank bytes ≡ false
no_blank [] h = refl
no_blank (b ∷ bytes) h = let p = both (is_plain b) (list_all is_plain bytes) h in rw (plain_no_blank b p.0, no_blank bytes p.1) refl

blank_behind : (front rest : List ℕ) → has_blank (front ++ (32 ∷ rest)) ≡ true
blank_behind [] rest = refl
blank_behind (b ∷ front) rest = rw (blank_behind front rest) (either_true (b == 32))

module _ (term_again : TermIsReadAgain) (term_plain : TermIsPlain) where
  index_again : (i : Index) (rest : List ℕ) → fits_index i ≡ true → index_from (index_text i ++ (32 ∷ rest)) ≡ (i, 32 ∷ rest)
  unfolding index_from index_text
  index_again (At form) rest fits = rw (form_again form (32 ∷ rest) fits refl) refl
  index_again (Found term) rest fits = rw (term_again term (32 ∷ rest) fits refl) refl

  index_stops : (i : Index) (rest : List ℕ) → Stops is_word_byte (index_text i ++ rest)
  unfolding index_text
  index_stops (At form) rest = refl
  index_stops (Found term) rest = refl

  coordinate_again : (c : Coordinate) (rest : List ℕ) → fits_coordinate c ≡ true → coordinate_from (spaced_coordinate c ++ rest) ≡ (c, 32 ∷ rest)
  unfolding coordinate_from coordinate_text
  coordinate_again c rest fits =
      let parts = both (is_name c.variable) (fits_index c.index) fits in
      let cut : ((c.variable ++ index_text c.index) ++ 32 ∷ []) ++ rest ≡ c.variable ++ (index_text c.index ++ (32 ∷ rest)) =
      append_assoc (c.variable ++ index_text c.index) (32 ∷ []) rest ∙ append_assoc c.variable (index_text c.index) (32 ∷ rest) in
      let after_name = index_text c.index ++ (32 ∷ rest) in
      let stop = index_stops c.index (32 ∷ rest) in
      rw (cut, name_word c.variable after_name parts.0 stop, name_rest c.variable after_name parts.0 stop, index_again c.index rest parts.1) refl

  coordinates_again : (most : ℕ) (found at : List Coordinate) (e : Term) → length at ≤ most → list_all fits_coordinate at ≡ true → terms_fit.fits_term e ≡ true
      → coordinates_from most found (flat_map spaced_coordinate at ++ terms.term_text e) ≡ (found ++ at, terms.term_text e)
  unfolding coordinates_from
  coordinates_again zero found [] e le fits last = ap (λ (cs : List Coordinate). (cs, terms.term_text e)) (sym (append-nil found))
  coordinates_again (suc most) found [] e le fits last = rw (no_blank (terms.term_text e) (term_plain e last)) (ap (λ (cs : List Coordinate). (cs, terms.term_text e)) (sym (append-nil found)))
  coordinates_again zero found (c ∷ at) e le fits last = absurd (omega arith)
  coordinates_again (suc most) found (c ∷ at) e le fits last =
      let parts = both (fits_coordinate c) (list_all fits_coordinate at) fits in
      let tail = flat_map spaced_coordinate at ++ terms.term_text e in
      let cut : flat_map spaced_coordinate (c ∷ at) ++ terms.term_text e ≡ spaced_coordinate c ++ tail = append_assoc (spaced_coordinate c) (flat_map spaced_coordinate at) (terms.term_text e) in
      let blank : has_blank (spaced_coordinate c ++ tail) ≡ true = ap has_blank (append_assoc (coordinate_text c) (32 ∷ []) tail) ∙ blank_behind (coordinate_text c) tail in
      let more = coordinates_again most (found ++ c ∷ []) at e (omega arith) parts.1 last in
      rw (cut, blank, coordinate_again c tail parts.0) (more ∙ ap (λ (cs : List Coordinate). (cs, terms.term_text e)) (append_assoc found (c ∷ []) at))

  coordinates_many : (at : List Coordinate) → length at ≤ length (flat_map spaced_coordinate at)
  coordinates_many [] = omega arith
  coordinates_many (c ∷ at) = omega (arith, coordinates_many at, length-append (spaced_coordinate c) (flat_map spaced_coordinate at), length-append (coordinate_text c) (32 ∷ []))

  store_again : (b k : ℕ) (at : List Coordinate) (e : Term) → fits_line (StoreLine b k at e) ≡ true → store_from (count_text b ++ (32 ∷ (count_text k ++ (32 ∷ (flat_map spaced_coordinate at ++ terms.term_text e))))) ≡ StoreLine b k at e
  unfolding store_from
  store_again b k at e fits =
      let three = both (fits_size b && fits_size k && list_all fits_coordinate at) (terms_fit.fits_term e) fits in
      let two = both (fits_size b && fits_size k) (list_all fits_coordinate at) three.0 in
      let one = both (fits_size b) (fits_size k) two.0 in
      let tail = flat_map spaced_coordinate at ++ terms.term_text e in
      let room : length at ≤ length (32 ∷ tail) = omega (arith, coordinates_many at, length-append (flat_map spaced_coordinate at) (terms.term_text e)) in
      let last : terms_read.term_from (terms.term_text e) ≡ (e, []) = ap terms_read.term_from (sym (append-nil (terms.term_text e))) ∙ term_again e [] three.1 refl in
      rw (size_again b (32 ∷ (count_text k ++ (32 ∷ tail))) one.0 refl, size_again k (32 ∷ tail) one.1 refl, coordinates_again (length (32 ∷ tail)) [] at e room two.1 three.1, last) refl

  -- what is written for a line is read as that line
  pub line_again : (l : Line) → fits_line l ≡ true → line_from (line_text l) ≡ l
  unfolding line_from input_text output_text group_text for_text let_text guard_text alloc_text fetch_text store_text
  line_again (PlanLine name) fits = ap (λ r. PlanLine r.0) (at_end is_name is_word_byte (λ n. n) name_from name_again refl name fits)
  line_again (InputLine d) fits = ap InputLine (declaration_again d fits)
  line_again (OutputLine d) fits = ap OutputLine (declaration_again d fits)
  line_again (GroupLine n f region grid) fits = group_again n f region grid fits
  line_again (ForLine i span k) fits = for_again i span k fits
  line_again (LetLine i p forms) fits = let_again i p forms fits
  line_again (FirstLine i) fits = rw (at_end fits_symbol is_digit symbol_text symbol_from symbol_again refl i fits) refl
  line_again ElseLine fits = refl
  line_again (GuardLine low high) fits = guard_again low high fits
  line_again EndLine fits = refl
  line_again (AllocLine b f all) fits = alloc_again b f all fits
  line_again (FetchLine b g region) fits = fetch_again b g region fits
  line_again (StoreLine b k at e) fits = store_again b k at e fits
  line_again (PublishLine c) fits = rw (at_end fits_size is_digit count_text size_from size_again refl c fits) refl
