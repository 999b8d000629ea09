-- The forms of a group stand where its lines have no flaw.
use Rattle.std.proofs.Common.{◌≡◌, ℕ, List, [], ◌∷◌, length, Bool, true, false, Option, Some, None, refl}
use Rattle.std.specs.Prelude.{◌&&◌, ◌||◌, ◌==◌, not, nat_lt, MatchOption}
use Rattle.std.specs.List.{list_all, list_any, AllByRecursion}
use Rattle.std.proofs.lemmas.Bool.{false≢true}
use Rattle.tree.specs.Term.{Term}
use Rattle.lin.specs.Forms.{Form, is_within_limits}
use Rattle.lin.specs.declared.span.Span1.{Span1}
use Rattle.meaning.specs.Algorithm.{Algorithm}
use Rattle.plan.specs.declared.stmt.Places.{Places}
use Rattle.plan.specs.declared.stmt.Places.TheVariants.{From, Folded}
use Rattle.plan.specs.Plan.{Index, At, Found, Coordinate, Statement, Seq, For, Let, First, Guard, Alloc, Fetch, Store, Publish, Statements, Empty, Then, Group, Plan}
use Rattle.plan.specs.Certificate.Certificate.{Certificate}
use Rattle.plan.specs.Certificate.Cells.{own_region}
use Rattle.soundness.specs.Origins.{Outline}
use Rattle.soundness.specs.Given.{outline_of}
use Rattle.soundness.proofs.Refines.{and_parts}
use Rattle.soundness.specs.Outline.Forms.{is_over, are_over, spans_are_over, are_within_limits, spans_are_within_limits, is_listed, have_ends, grid_symbols}
use Rattle.audit.specs.Verdict.Bounded.Near.{FormStands, SpanStands, PlacesStand, IndexStands, HasForms, HasFormsInBlock}
use Rattle.validation.specs.Certificate.Clear.{IsRegion}
use Rattle.validation.specs.Stored.Definitions.{Definition, parts_named, has_variables, function_in}
use Rattle.validation.specs.Stored.Stored.{has_names, is_named, is_known, index_is_over, index_is_within, index_is_known, is_call}
use Rattle.validation.specs.Groups.Lanes.{fits_mark}
use Rattle.validation.specs.Groups.Lines.{Here, before, after, in_loop, inside, in_later, is_empty, is_new, place_is_over, place_is_within, fetch_is_named, fetch_is_taken, definition_is_named, definition_is_stored, definition_of, store_is_small, flaws, block_flaws, start}
use Rattle.validation.proofs.Flawless.{fine, fine_loop, none_in, group_fine, body_fine}
use Rattle.audit.specs.Verdict.Clear.{GroupsAreNear}
use Rattle.audit.proofs.OfVerdict.Small.{line_fine, pieces_few}

-- ---- forms

pub forms_stand : (symbols : List ℕ) (fs : List Form) → are_over symbols fs ≡ true → are_within_limits fs ≡ true → AllByRecursion (FormStands symbols) fs
forms_stand symbols [] o w = tt
forms_stand symbols (f ∷ fs) o w =
    let k = and_parts (is_over symbols f) (are_over symbols fs) o in
    let l = and_parts (is_within_limits f) (are_within_limits fs) w in
    (record { over = k.0; limits = l.0 }, forms_stand symbols fs k.1 l.1)

pub span_stands : (symbols : List ℕ) (x : Span1) → (are_over symbols x.lower && are_over symbols x.upper) ≡ true → (are_within_limits x.lower && are_within_limits x.upper) ≡ true → SpanStands symbols x
span_stands symbols x o w =
    let k = and_parts (are_over symbols x.lower) (are_over symbols x.upper) o in
    let l = and_parts (are_within_limits x.lower) (are_within_limits x.upper) w in
    record { lower = forms_stand symbols x.lower k.0 l.0; upper = forms_stand symbols x.upper k.1 l.1 }

pub spans_stand : (symbols : List ℕ) (xs : List Span1) → spans_are_over symbols xs ≡ true → spans_are_within_limits xs ≡ true → AllByRecursion (SpanStands symbols) xs
spans_stand symbols [] o w = tt
spans_stand symbols (x ∷ xs) o w =
    let k = and_parts (are_over symbols x.lower && are_over symbols x.upper) (spans_are_over symbols xs) o in
    let l = and_parts (are_within_limits x.lower && are_within_limits x.upper) (spans_are_within_limits xs) w in
    (span_stands symbols x k.0 l.0, spans_stand symbols xs k.1 l.1)

place_stands : (symbols : List ℕ) (x : Places) → place_is_over symbols x ≡ true → place_is_within x ≡ true → PlacesStand symbols x
place_stands symbols (From l n) o w = record { over = o; limits = w }
place_stands symbols (Folded n) o w = tt

places_stand : (symbols : List ℕ) (xs : List Places) → list_all (place_is_over symbols) xs ≡ true → list_all place_is_within xs ≡ true → AllByRecursion (PlacesStand symbols) xs
places_stand symbols [] o w = tt
places_stand symbols (x ∷ xs) o w =
    let k = and_parts (place_is_over symbols x) (list_all (place_is_over symbols) xs) o in
    let l = and_parts (place_is_within x) (list_all place_is_within xs) w in
    (place_stands symbols x k.0 l.0, places_stand symbols xs k.1 l.1)

index_stands : (symbols : List ℕ) (x : Index) → index_is_over symbols x ≡ true → index_is_within x ≡ true → IndexStands symbols x
index_stands symbols (At l) o w = record { over = o; limits = w }
index_stands symbols (Found e) o w = tt

coordinates_stand : (symbols : List ℕ) (xs : List Coordinate) → list_all (λ x. index_is_over symbols x.index) xs ≡ true → list_all (λ x. index_is_within x.index) xs ≡ true → AllByRecursion (λ x. IndexStands symbols x.index) xs
coordinates_stand symbols [] o w = tt
coordinates_stand symbols (x ∷ xs) o w =
    let k = and_parts (index_is_over symbols x.index) (list_all (λ x. index_is_over symbols x.index) xs) o in
    let l = and_parts (index_is_within x.index) (list_all (λ x. index_is_within x.index) xs) w in
    (index_stands symbols x.index k.0 l.0, coordinates_stand symbols xs k.1 l.1)

untrue : (b : Bool) → not b ≡ true → b ≡ false
untrue true h = absurd (false≢true h)
untrue false h = refl

pub new_symbol : (symbols : List ℕ) (i : ℕ) → is_new symbols i ≡ true → list_any (λ s. s == i) symbols ≡ false
new_symbol symbols i h = untrue (list_any (λ s. s == i) symbols) h

-- ---- lines

-- a line `fetch` where lines `fetch` may stand
pub record FetchIsFine (p : Plan) (a : Algorithm) (g : Group) (o : Outline) (here : Here) (h : ℕ) (region : List Span1) : Type 0 where
  pub group : nat_lt h (length p.groups) ≡ true
  pub variables : has_variables (parts_named a (o.setting.group_function h)) (length region) ≡ true
  pub symbols : spans_are_over here.symbols region ≡ true
  pub limits : spans_are_within_limits region ≡ true
  pub fetching : here.fetching ≡ true

module _ (a : Algorithm) (p : Plan) (c : Certificate) (g : Group) (o : Outline) where
  pub fetch_fine : (b h : ℕ) (region : List Span1) (here : Here) → flaws a p c g o (Fetch b h region) here ≡ [] → FetchIsFine p a g o here h region
  fetch_fine b h region here none =
      let f = fine here.line (fetch_is_named a p c g o here b h region) (spans_are_within_limits region) true (fetch_is_taken here region) none in
      let one = and_parts (list_any (λ x. x == b) here.buffers) _ f.names in
      let two = and_parts (nat_lt h (length p.groups)) _ one.1 in
      let three = and_parts _ (has_variables (parts_named a (o.setting.group_function h)) (length region) && spans_are_over here.symbols region) two.1 in
      let four = and_parts (has_variables (parts_named a (o.setting.group_function h)) (length region)) (spans_are_over here.symbols region) three.1 in
      let five = and_parts here.fetching (have_ends region) f.limits in
      record {
        group = two.0;
        variables = four.0;
        symbols = four.1;
        limits = f.forms;
        fetching = five.0;
      }

  named_over : (m : Option Definition) (here : Here) (b : ℕ) (at : List Coordinate) (e : Term) → definition_is_named a p c g o m here b at e ≡ true → list_all (λ x. index_is_over here.symbols x.index) at ≡ true
  named_over None here b at e h = absurd (false≢true h)
  named_over (Some m) here b at e h =
      let known = list_all (λ x. index_is_known (is_named at) (is_call a p here.group o) x.index) at && is_known (is_named at) (is_call a p here.group o) e in
      let over = list_all (λ x. index_is_over here.symbols x.index) at in
      let one = and_parts (has_names m at) (o.setting.dimensions b == length (function_in m).variables && (over && known)) h in
      let two = and_parts (o.setting.dimensions b == length (function_in m).variables) (over && known) one.1 in
      (and_parts over known two.1).0

  mutual
    pub has_forms : (s : Statement) (here : Here) → flaws a p c g o s here ≡ [] → HasForms s here.symbols
    has_forms (Seq all) here h = block_has_forms all here h
    has_forms (For i x kind body) here h =
        let k = none_in _ _ h in
        let over = are_over here.symbols x.lower && are_over here.symbols x.upper in
        let f = fine_loop here.line (is_new here.symbols i && over) (are_within_limits x.lower && are_within_limits x.upper) (fits_mark a o.setting i kind body)
        ((is_listed x.lower && is_listed x.upper) && nat_lt here.bound 256) k.0 in
        let names = and_parts (is_new here.symbols i) over f.names in
        (span_stands here.symbols x names.1 f.forms, new_symbol here.symbols i names.0, has_forms body (in_loop i here) k.1)
    has_forms (Let i pick ls) here h =
        let f = fine here.line (is_new here.symbols i && are_over here.symbols ls) (are_within_limits ls) true (is_listed ls && nat_lt here.bound 256) h in
        let names = and_parts (is_new here.symbols i) (are_over here.symbols ls) f.names in
        (forms_stand here.symbols ls names.1 f.forms, new_symbol here.symbols i names.0)
    has_forms (First i s r) here h =
        let k = none_in _ _ (none_in _ _ h).1 in
        (has_forms s (inside here) k.0, has_forms r (in_later s here) k.1)
    has_forms (Guard low high body) here h =
        let k = none_in _ _ h in
        let f = fine here.line (is_over here.symbols low && is_over here.symbols high) (is_within_limits low && is_within_limits high) true true k.0 in
        let over = and_parts (is_over here.symbols low) (is_over here.symbols high) f.names in
        let limits = and_parts (is_within_limits low) (is_within_limits high) f.forms in
        (record { over = over.0; limits = limits.0 }, record { over = over.1; limits = limits.1 }, has_forms body (inside here) k.1)
    has_forms (Alloc b f places) here h =
        let vars = has_variables (parts_named a f) (length places) in
        let k = fine here.line (vars && list_all (place_is_over here.symbols) places) (list_all place_is_within places) true _ h in
        places_stand here.symbols places (and_parts vars (list_all (place_is_over here.symbols) places) k.names).1 k.forms
    has_forms (Fetch b k region) here h =
        let f = fetch_fine b k region here h in
        spans_stand here.symbols region f.symbols f.limits
    has_forms (Store b k at e) here h =
        let m = definition_of a p c g o b k in
        let named = definition_is_named a p c g o m here b at e in
        let bound = list_any (λ x. x == b) here.buffers in
        let f = fine here.line (bound && named) (list_all (λ x. index_is_within x.index) at) (not (store_is_small a p c g o at e) || definition_is_stored a p c g o m at e) (store_is_small a p c g o at e) h in
        coordinates_stand here.symbols at (named_over m here b at e (and_parts bound named f.names).1) f.forms
    has_forms (Publish k) here h = tt

    block_has_forms : (all : Statements) (here : Here) → block_flaws a p c g o all here ≡ [] → HasFormsInBlock all here.symbols
    block_has_forms Empty here h = tt
    block_has_forms (Then s rest) here h =
        let k = none_in _ _ h in
        (has_forms s (before (is_empty rest) here) k.0, block_has_forms rest (after s here) k.1)

-- ---- groups

own_stands : (long grid : ℕ) (o : Option (List Span1)) → MatchOption o ⊥ (IsRegion long grid) → MatchOption o (Unit {0}) (AllByRecursion (SpanStands (grid_symbols grid)))
own_stands long grid None h = tt
own_stands long grid (Some xs) h = spans_stand (grid_symbols grid) xs h.symbols h.limits

pub groups_near : GroupsAreNear
groups_near a p c rules h clear n g at wide =
    let f = group_fine a p c h n g at in
    let l = line_fine a p c n g f in
    record {
      few = pieces_few a p c h n g at;
      region = spans_stand [] g.region l.symbols l.limits;
      own = own_stands (length g.region) (length g.grid) (own_region c.own n) (clear.own n g at);
      lines = has_forms a p c g (outline_of p c n g) g.body (start f.line g) (body_fine a p c n g f);
      loops = wide;
    }
