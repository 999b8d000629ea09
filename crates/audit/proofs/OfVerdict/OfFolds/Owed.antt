-- What the lines of a statement owe stays shown with greater folds.
use Rattle.std.proofs.Common.{◌≡◌, ℕ, ◌+◌, ◌-◌, Bool, true, false, List, [], ◌∷◌, ◌++◌, map, take, drop, Option, Some, None, refl, sym, ap, ◌∙◌, subst, arith}
use Rattle.std.specs.Prelude.{◌≤◌, ◌==◌, ◌||◌, ◌&&◌, not, nat_le, if◌then◌else◌, filter, flat_map}
use Rattle.std.specs.List.{list_any, list_all}
use Rattle.std.proofs.lemmas.Bool.{eq-eqb, eqb-true}
use Rattle.std.proofs.lemmas.List.Folds.{list_all-append}
use Rattle.tree.specs.Term.{Term, Number, Name, Call, Minus, Binary, Clamp, Cast, Choice, Terms, End, More, Test, Compares, Fails, Both, Either}
use Rattle.lin.specs.Forms.{Form}
use Rattle.lin.specs.declared.span.Span1.{Span1}
use Rattle.meaning.specs.Algorithm.{Range}
use Rattle.plan.specs.declared.certificate.cert.Window.{Window}
use Rattle.plan.specs.declared.stmt.Places.{Places}
use Rattle.plan.specs.Lines.{lines, block_lines}
use Rattle.plan.specs.Plan.{Index, At, Found, Coordinate, Statement, Seq, For, Let, First, Guard, Alloc, Fetch, Store, Publish, Statements, Empty, Then}
use Rattle.plan.specs.Semantics.Actions.{Setting}
use Rattle.plan.specs.Semantics.Run.{Source, Input, ByClaim, Unknown}
use Rattle.soundness.specs.Origins.{Outline, or_same}
use Rattle.soundness.specs.Claims.{is_update, updates, block_updates, writes, block_writes}
use Rattle.soundness.specs.Obligations as O
use Rattle.soundness.specs.Obligations.{Binder, Ranged, Picked, Passed, Buffer, Known, Updating, Rules, Obligation, NotMade, Named, Inside, InTurn, is_member, window_of, without, gives, stands_alone}
use Rattle.soundness.specs.Obligations.{places_of, span_has, binder_has, places_have, is_free, turn_code, from_each}
use Rattle.soundness.specs.Shown.{Nests, is_shown, all_shown, shows}
use Rattle.tails.specs.Windows.Nests.{slid_nests}
use Rattle.audit.specs.Verdict.Folds.{risen, places_raised, with_places, block_with_places, by_more, raised, block_raised, window_raised, span_passes, statement_passes, block_passes}
use Rattle.audit.specs.Verdict.Folds.{place_within, folds_within, block_within, Rises}
use Rattle.audit.proofs.OfVerdict.OfFolds.Tests.{both, and_parts, and_leads, stays, changes_same, block_changes_same, have_same, seats_rise, made_more, slid_more, held_more, in_turn_same}

-- ---- what is told of statements

module _ (spots : ℕ → List Places → List Places) where
  mutual
    pub lines_same : (a : Statement) → lines a ≡ lines (with_places spots a)
    lines_same (Seq all) = block_lines_same all
    lines_same (For i x kind body) = λ j. lines_same body j + 2
    lines_same (Let i pick forms) = refl
    lines_same (First i a b) = λ j. lines_same a j + lines_same b j + 3
    lines_same (Guard low high body) = λ j. lines_same body j + 2
    lines_same (Alloc b f places) = refl
    lines_same (Fetch b g region) = refl
    lines_same (Store b k at e) = refl
    lines_same (Publish c) = refl

    block_lines_same : (all : Statements) → block_lines all ≡ block_lines (block_with_places spots all)
    block_lines_same Empty = refl
    block_lines_same (Then a rest) = λ j. lines_same a j + block_lines_same rest j

  module _ (setting : Setting) (b : ℕ) (f : List ℕ) where
    mutual
      pub updates_same : (a : Statement) → updates setting a b f ≡ updates setting (with_places spots a) b f
      updates_same (Seq all) = block_updates_same all
      updates_same (For i x kind body) = updates_same body
      updates_same (Let i pick forms) = refl
      updates_same (First i a c) = λ j. updates_same a j && updates_same c j
      updates_same (Guard low high body) = updates_same body
      updates_same (Alloc c g places) = refl
      updates_same (Fetch c g region) = refl
      updates_same (Store c k at e) = refl
      updates_same (Publish c) = refl

      block_updates_same : (all : Statements) → block_updates setting all b f ≡ block_updates setting (block_with_places spots all) b f
      block_updates_same Empty = refl
      block_updates_same (Then a rest) = λ j. updates_same a j && block_updates_same rest j

    mutual
      writes_same : (a : Statement) → writes setting a b f ≡ writes setting (with_places spots a) b f
      writes_same (Seq all) = block_writes_same all
      writes_same (For i x kind body) = writes_same body
      writes_same (Let i pick forms) = refl
      writes_same (First i a c) = λ j. writes_same a j && writes_same c j
      writes_same (Guard low high body) = writes_same body
      writes_same (Alloc c g places) = refl
      writes_same (Fetch c g region) = refl
      writes_same (Store c k at e) = refl
      writes_same (Publish c) = refl

      block_writes_same : (all : Statements) → block_writes setting all b f ≡ block_writes setting (block_with_places spots all) b f
      block_writes_same Empty = refl
      block_writes_same (Then a rest) = λ j. writes_same a j && block_writes_same rest j

  gives_same : (i : ℕ) (a : Statement) → gives i a ≡ gives i (with_places spots a)
  gives_same i (Seq all) = refl
  gives_same i (For k x kind body) = refl
  gives_same i (Let k pick forms) = refl
  gives_same i (First k a c) = refl
  gives_same i (Guard low high body) = refl
  gives_same i (Alloc c f places) = refl
  gives_same i (Fetch c g region) = refl
  gives_same i (Store c k at e) = refl
  gives_same i (Publish c) = refl

module _ (more : ℕ → ℕ → ℕ) where
  -- ---- buffers

  abbrev buffer_raised : Buffer → Buffer
  buffer_raised x = record { name = x.name; places = places_raised (more x.name) x.places }

  symbols_same : (i : ℕ) (xs : List Buffer) → list_any (λ (b : Buffer). list_any (places_have i) b.places) xs ≡ list_any (λ (b : Buffer). list_any (places_have i) b.places) (map buffer_raised xs)
  symbols_same i [] = refl
  symbols_same i (x ∷ xs) = λ j. have_same i (more x.name) x.places j || symbols_same i xs j

-- places of a buffer, if there is one
abbrev if_raised : (ℕ → ℕ) → Option (List Places) → Option (List Places)
if_raised more None = None
if_raised more (Some places) = Some (places_raised more places)

-- what a window is, if there is one
abbrev if_window : (Window → ℕ) → Option Window → Option Window
if_window by None = None
if_window by (Some w) = Some (window_raised by w)

spots_same : (more : ℕ → ℕ → ℕ) (xs : List Buffer) (b : ℕ) → if_raised (more b) (places_of xs b) ≡ places_of (map (buffer_raised more) xs) b
spots_same more [] b = refl
spots_same more (x ∷ xs) b = of (b == x.name) (λ e. eqb-true b x.name e) (spots_same more xs b)
  where
    of : (v : Bool) → (v ≡ true → b ≡ x.name) → if_raised (more b) (places_of xs b) ≡ places_of (map (buffer_raised more) xs) b →
        if_raised (more b) (if v then Some x.places else places_of xs b) ≡ (if v then Some (places_raised (more x.name) x.places) else places_of (map (buffer_raised more) xs) b)
    of true same rest = λ j. Some (places_raised (more (same refl j)) x.places)
    of false same rest = rest

free_same : (more : ℕ → ℕ) (o : Option (List Places)) → is_free o ≡ is_free (if_raised more o)
free_same more None = refl
free_same more (Some places) = refl

-- ---- windows

filter_same : (by : Window → ℕ) (good : Window → Bool) → ((w : Window) → good w ≡ good (window_raised by w)) → (ws : List Window) →
    map (window_raised by) (filter good ws) ≡ filter good (map (window_raised by) ws)
filter_same by good same [] = refl
filter_same by good same (w ∷ ws) = of (good w) (filter_same by good same ws)
    ∙ (λ j. if same w j then window_raised by w ∷ filter good (map (window_raised by) ws) else filter good (map (window_raised by) ws))
  where
    of : (v : Bool) → map (window_raised by) (filter good ws) ≡ filter good (map (window_raised by) ws) →
        map (window_raised by) (if v then w ∷ filter good ws else filter good ws)
        ≡ (if v then window_raised by w ∷ filter good (map (window_raised by) ws) else filter good (map (window_raised by) ws))
    of true rest = λ j. window_raised by w ∷ rest j
    of false rest = rest

filter_passes : (test good : Window → Bool) (ws : List Window) → list_all test ws ≡ true → list_all test (filter good ws) ≡ true
filter_passes test good [] h = refl
filter_passes test good (w ∷ ws) h = let parts = and_parts (test w) (list_all test ws) h in of (good w) parts.0 (filter_passes test good ws parts.1)
  where
    of : (v : Bool) → test w ≡ true → list_all test (filter good ws) ≡ true → list_all test (if v then w ∷ filter good ws else filter good ws) ≡ true
    of true e rest = both (test w) (list_all test (filter good ws)) e rest
    of false e rest = rest

of_claim_same : (by : Window → ℕ) (ws : List Window) (c : ℕ) → if_window by (window_of ws c) ≡ window_of (map (window_raised by) ws) c
of_claim_same by [] c = refl
of_claim_same by (w ∷ ws) c = of (w.claim == c) (of_claim_same by ws c)
  where
    of : (v : Bool) → if_window by (window_of ws c) ≡ window_of (map (window_raised by) ws) c →
        if_window by (if v then Some w else window_of ws c) ≡ (if v then Some (window_raised by w) else window_of (map (window_raised by) ws) c)
    of true rest = refl
    of false rest = rest

-- the window of a claim is one of the windows, and is of the claim
record IsOf (test : Window → Bool) (c : ℕ) (w : Window) : Type 0 where
  passes : test w ≡ true
  claim : w.claim ≡ c

abbrev IfOf : (test : Window → Bool) (c : ℕ) → Option Window → Type 0
IfOf test c None = Unit {0}
IfOf test c (Some w) = IsOf test c w

is_of : (test : Window → Bool) (ws : List Window) (c : ℕ) → list_all test ws ≡ true → IfOf test c (window_of ws c)
is_of test [] c h = tt
is_of test (w ∷ ws) c h = let parts = and_parts (test w) (list_all test ws) h in of (w.claim == c) (λ e. eqb-true w.claim c e) parts.0 (is_of test ws c parts.1)
  where
    of : (v : Bool) → (v ≡ true → w.claim ≡ c) → test w ≡ true → IfOf test c (window_of ws c) → IfOf test c (if v then Some w else window_of ws c)
    of true same e rest = record { passes = e; claim = same refl }
    of false same e rest = rest

-- ---- members

abbrev some_member : (P : ℕ → Type 0) → List ℕ → Type 0
some_member P cs = (c : ℕ) → is_member c cs ≡ true → P c

-- ---- where a claim stands alone

module _ (spots : ℕ → List Places → List Places) (outline : Outline) where
  pub stands_same : (i c : ℕ) (all : Statements) (line : ℕ) → stands_alone outline i c all line ≡ stands_alone outline i c (block_with_places spots all) line
  stands_same i c Empty line = refl
  stands_same i c (Then a rest) line =
      let onward = stands_same i c rest (line + lines a) ∙ (λ j. stands_alone outline i c (block_with_places spots rest) (line + lines_same spots a j)) in
      λ j. if is_member c (outline.named (line + lines_same spots a j - 1)) then not (block_changes_same spots rest (outline.claim c).buffer j)
      else (not (changes_same spots a (outline.claim c).buffer j) && (not (gives_same spots i a j) && onward j))

-- ---- what is owed

module _ (limit : ℕ) (pass : Binder → Bool) (test : Form → Bool) (rules : Rules) (rises : Rises limit pass test rules) (outline : Outline)
    (domain : List ℕ → ℕ → Option (List Range)) (more : ℕ → ℕ → ℕ) (by : Window → ℕ) where
  abbrev later : Outline
  later = record { setting = outline.setting; source = outline.source; claim = outline.claim; named = outline.named; windows = map (window_raised by) outline.windows }

  abbrev are_shown : List Obligation → Bool
  are_shown os = all_shown rules (slid_nests outline rules domain) os

  abbrev known_raised : Known → Known
  known_raised known = record { binders = known.binders; buffers = map (buffer_raised more) known.buffers; claims = known.claims; own = known.own; updating = known.updating }

  -- two lists one behind the other, each of which leads to the one beside it
  join : (xs ys us vs : List Obligation) → (are_shown xs ≡ true → are_shown us ≡ true) → (are_shown ys ≡ true → are_shown vs ≡ true) → are_shown (xs ++ ys) ≡ true → are_shown (us ++ vs) ≡ true
  join xs ys us vs f g h =
      list_all-append (is_shown rules (slid_nests outline rules domain)) us vs
      ∙ and_leads (are_shown xs) (are_shown ys) (are_shown us) (are_shown vs) f g (sym (list_all-append (is_shown rules (slid_nests outline rules domain)) xs ys) ∙ h)

  -- ---- accesses

  seated_more : (bs : List Binder) (m : ℕ → ℕ) (o : Option (List Places)) (xs : List Span1) → shows rules (slid_nests outline rules domain) bs (O.seated outline rules o xs) ≡ true →
      shows rules (slid_nests outline rules domain) bs (O.seated later rules (if_raised m o) xs) ≡ true
  seated_more bs m None xs h = h
  seated_more bs m (Some places) xs h = seats_rise rules bs m xs places h

  seated_known : (known : Known) (b : ℕ) (xs : List Span1) → shows rules (slid_nests outline rules domain) known.binders (O.seated outline rules (places_of known.buffers b) xs) ≡ true →
      shows rules (slid_nests outline rules domain) known.binders (O.seated later rules (places_of (map (buffer_raised more) known.buffers) b) xs) ≡ true
  seated_known known b xs h =
      subst (λ (o : Option (List Places)). shows rules (slid_nests outline rules domain) known.binders (O.seated later rules o xs) ≡ true) (spots_same more known.buffers b)
      (seated_more known.binders (more b) (places_of known.buffers b) xs h)

  load_more : (line : ℕ) (known : Known) (may : ℕ → Bool) (meets : ℕ → List (List Span1)) (source : Source) (xs : List Span1) →
      are_shown (O.load_obligations outline rules line known may meets source xs) ≡ true → are_shown (O.load_obligations later rules line (known_raised known) may meets source xs) ≡ true
  load_more line known may meets Input xs h = h
  load_more line known may meets (ByClaim c) xs h =
      let rest = are_shown (O.obligation outline rules O.NotClaimed line known (Named (may c)) ∷ O.obligation outline rules O.NotClaimed line known (Inside xs (O.region_of outline rules c))
      ∷ map (λ ys. O.obligation outline rules O.NotTheDefinition line known (Inside xs ys)) (meets c)) in
      let b = (outline.claim c).buffer in
      and_leads (shows rules (slid_nests outline rules domain) known.binders (O.seated outline rules (places_of known.buffers b) xs)) rest
      (shows rules (slid_nests outline rules domain) known.binders (O.seated later rules (places_of (map (buffer_raised more) known.buffers) b) xs)) rest
      (seated_known known b xs) (stays rest) h
  load_more line known may meets Unknown xs h = h

  module _ (line : ℕ) (known : Known) (may : ℕ → Bool) (meets : ℕ → List (List Span1)) (names : List (List ℕ)) (vars : List Span1) where
    abbrev here : Term → List Obligation
    here e = O.loads outline rules line known may meets names vars e

    abbrev there : Term → List Obligation
    there e = O.loads later rules line (known_raised known) may meets names vars e

    mutual
      loads_more : (e : Term) → are_shown (here e) ≡ true → are_shown (there e) ≡ true
      loads_more (Number t n) h = h
      loads_more (Name name) h = h
      loads_more (Call name at) h =
          let spans = O.intervals outline rules known.binders names vars at in
          join (O.loads_of_all outline rules line known may meets names vars at) (O.load_obligations outline rules line known may meets (outline.source name) spans)
          (O.loads_of_all later rules line (known_raised known) may meets names vars at) (O.load_obligations later rules line (known_raised known) may meets (outline.source name) spans)
          (all_more at) (load_more line known may meets (outline.source name) spans) h
      loads_more (Minus a) h = loads_more a h
      loads_more (Binary op a b) h = join (here a) (here b) (there a) (there b) (loads_more a) (loads_more b) h
      loads_more (Clamp a l u) h =
          join (here a) (here l ++ here u) (there a) (there l ++ there u) (loads_more a) (join (here l) (here u) (there l) (there u) (loads_more l) (loads_more u)) h
      loads_more (Cast t a) h = loads_more a h
      loads_more (Choice c a b) h =
          join (O.loads_of_test outline rules line known may meets names vars c) (here a ++ here b) (O.loads_of_test later rules line (known_raised known) may meets names vars c)
          (there a ++ there b)
          (test_more c) (join (here a) (here b) (there a) (there b) (loads_more a) (loads_more b)) h

      test_more : (c : Test) → are_shown (O.loads_of_test outline rules line known may meets names vars c) ≡ true →
          are_shown (O.loads_of_test later rules line (known_raised known) may meets names vars c) ≡ true
      test_more (Compares op a b) h = join (here a) (here b) (there a) (there b) (loads_more a) (loads_more b) h
      test_more (Fails c) h = test_more c h
      test_more (Both c d) h =
          join (O.loads_of_test outline rules line known may meets names vars c) (O.loads_of_test outline rules line known may meets names vars d)
          (O.loads_of_test later rules line (known_raised known) may meets names vars c) (O.loads_of_test later rules line (known_raised known) may meets names vars d) (test_more c)
          (test_more d) h
      test_more (Either c d) h =
          join (O.loads_of_test outline rules line known may meets names vars c) (O.loads_of_test outline rules line known may meets names vars d)
          (O.loads_of_test later rules line (known_raised known) may meets names vars c) (O.loads_of_test later rules line (known_raised known) may meets names vars d) (test_more c)
          (test_more d) h

      all_more : (at : Terms) → are_shown (O.loads_of_all outline rules line known may meets names vars at) ≡ true →
          are_shown (O.loads_of_all later rules line (known_raised known) may meets names vars at) ≡ true
      all_more End h = h
      all_more (More a rest) h =
          join (here a) (O.loads_of_all outline rules line known may meets names vars rest) (there a) (O.loads_of_all later rules line (known_raised known) may meets names vars rest)
          (loads_more a) (all_more rest) h

    index_more : (x : Index) → are_shown (O.index_loads outline rules line known may meets names vars x) ≡ true →
        are_shown (O.index_loads later rules line (known_raised known) may meets names vars x) ≡ true
    index_more (At l) h = h
    index_more (Found e) h = loads_more e h

    coordinates_more : (at : List Coordinate) → are_shown (flat_map (O.coordinate_loads outline rules line known may meets names vars) at) ≡ true →
        are_shown (flat_map (O.coordinate_loads later rules line (known_raised known) may meets names vars) at) ≡ true
    coordinates_more [] h = h
    coordinates_more (c ∷ cs) h =
        join (O.coordinate_loads outline rules line known may meets names vars c) (flat_map (O.coordinate_loads outline rules line known may meets names vars) cs)
        (O.coordinate_loads later rules line (known_raised known) may meets names vars c) (flat_map (O.coordinate_loads later rules line (known_raised known) may meets names vars) cs)
        (index_more c.index) (coordinates_more cs) h

  store_more : (line : ℕ) (known : Known) (b : ℕ) (f : List ℕ) (k : ℕ) (at over : List Coordinate) (e : Term) →
      are_shown (O.store_obligations outline rules line known b f k at over e) ≡ true → are_shown (O.store_obligations later rules line (known_raised known) b f k at over e) ≡ true
  store_more line known b f k at over e h =
      let names = map (λ (c : Coordinate). c.variable) (at ++ over) in
      let left = map (O.variable_span outline rules) (at ++ over) in
      let places = map (O.target_span outline rules known names left) at in
      let may = O.may_load outline rules known b f k in
      let meets = O.met outline rules f k at in
      let vars = places ++ map (O.variable_span outline rules) over in
      let begun = O.is_begun outline rules known b f k in
      let loads = flat_map (O.coordinate_loads outline rules line known may meets names left) at ++ O.loads outline rules line known may meets names vars e in
      let later_loads = flat_map (O.coordinate_loads later rules line (known_raised known) may meets names left) at ++ O.loads later rules line (known_raised known) may meets names vars e in
      let claims = O.claimed outline rules line known b f k places in
      and_leads (shows rules (slid_nests outline rules domain) known.binders (O.seated outline rules (places_of known.buffers b) places)) (begun && are_shown (claims ++ loads))
      (shows rules (slid_nests outline rules domain) known.binders (O.seated later rules (places_of (map (buffer_raised more) known.buffers) b) places)) (begun
      && are_shown (claims ++ later_loads))
      (seated_known known b places)
      (and_leads begun (are_shown (claims ++ loads)) begun (are_shown (claims ++ later_loads)) (stays begun)
      (join claims loads claims later_loads (stays (are_shown claims))
      (join (flat_map (O.coordinate_loads outline rules line known may meets names left) at) (O.loads outline rules line known may meets names vars e)
      (flat_map (O.coordinate_loads later rules line (known_raised known) may meets names left) at) (O.loads later rules line (known_raised known) may meets names vars e)
      (coordinates_more line known may meets names left at) (loads_more line known may meets names vars e)))) h

  -- ---- claims

  abbrev window_good : Window → Bool
  window_good w = span_passes test w.span && nat_le (risen (by w) w.fold) limit

  -- the buffers have few places in the end
  abbrev buffers_within : List Buffer → Bool
  buffers_within xs = list_all (λ (x : Buffer). list_all (place_within limit) (places_raised (more x.name) x.places)) xs

  abbrev if_within : Option (List Places) → Bool
  if_within None = true
  if_within (Some places) = list_all (place_within limit) places

  spot_within : (xs : List Buffer) (b : ℕ) → buffers_within xs ≡ true → if_within (if_raised (more b) (places_of xs b)) ≡ true
  spot_within [] b h = refl
  spot_within (x ∷ xs) b h =
      let parts = and_parts (list_all (place_within limit) (places_raised (more x.name) x.places)) (buffers_within xs) h in of (b == x.name) (λ e. eqb-true b x.name e) parts.0
      (spot_within xs b parts.1)
    where
      of : (v : Bool) → (v ≡ true → b ≡ x.name) → list_all (place_within limit) (places_raised (more x.name) x.places) ≡ true → if_within (if_raised (more b) (places_of xs b)) ≡ true →
          if_within (if_raised (more b) (if v then Some x.places else places_of xs b)) ≡ true
      of true same here rest = subst (λ (c : ℕ). list_all (place_within limit) (places_raised (more c) x.places) ≡ true) (sym (same refl)) here
      of false same here rest = rest

  -- the windows of the claims of the statement that ends at the line have as many places more as the buffers of these claims
  abbrev Fits : ℕ → Type 0
  Fits line = (w : Window) → is_member w.claim (outline.named line) ≡ true → by w ≡ more (outline.claim w.claim).buffer w.dimension

  module _ (regions : (c : ℕ) → list_all (span_passes test) (outline.claim c).region ≡ true) where
    module _ (known : Known) (bound : list_all pass known.binders ≡ true) (small : buffers_within known.buffers ≡ true) (a : Statement)
        (good : statement_passes pass test a ≡ true) (c : ℕ) where
      abbrev tests : Nests
      tests = slid_nests outline rules domain

      goes_same : O.goes_on outline rules a c ≡ O.goes_on outline rules (raised more a) c
      goes_same = λ j. if updates_same (by_more more) outline.setting (outline.claim c).buffer (outline.claim c).function a j then Some ((outline.claim c).definition - 1) else None

      made_known : (o : Option (List Places)) → if_within (if_raised (more (outline.claim c).buffer) o) ≡ true → shows rules tests known.binders (O.made outline rules o c a) ≡ true →
          shows rules tests known.binders (O.made later rules (if_raised (more (outline.claim c).buffer) o) c (raised more a)) ≡ true
      made_known None few h = h
      made_known (Some places) few h =
          (λ j. tests.is_made known.binders c (sym goes_same j) (places_raised (more (outline.claim c).buffer) places) (raised more a))
          ∙ made_more limit pass test rules rises outline domain more known.binders bound c (regions c) a good (O.goes_on outline rules a c) places few h

      slid_known : (w : Window) (o : Option (List Places)) → if_within (if_raised (more (outline.claim c).buffer) o) ≡ true →
          shows rules tests known.binders (O.slid outline rules o w c a) ≡ true →
          shows rules tests known.binders (O.slid later rules (if_raised (more (outline.claim c).buffer) o) (window_raised by w) c (raised more a)) ≡ true
      slid_known w None few h = h
      slid_known w (Some places) few h = slid_more limit pass test rules rises outline domain more known.binders bound c (regions c) a good w by places few h

      held_known : (w : Window) (o : Option (List Places)) → if_within (if_raised (more (outline.claim c).buffer) o) ≡ true → window_good w ≡ true →
          by w ≡ more (outline.claim c).buffer w.dimension →
          shows rules tests known.binders (O.held outline rules o w known.binders c a) ≡ true →
          shows rules tests known.binders (O.held later rules (if_raised (more (outline.claim c).buffer) o) (window_raised by w) known.binders c (raised more a)) ≡ true
      held_known w None few f e h = h
      held_known w (Some places) few f e h =
          let parts = and_parts (span_passes test w.span) (nat_le (risen (by w) w.fold) limit) f in
          and_leads (tests.is_slid known.binders w c places a) (tests.is_held known.binders w c places a)
          (tests.is_slid known.binders (window_raised by w) c (places_raised (more (outline.claim c).buffer) places) (raised more a))
          (tests.is_held known.binders (window_raised by w) c (places_raised (more (outline.claim c).buffer) places) (raised more a))
          (slid_more limit pass test rules rises outline domain more known.binders bound c (regions c) a good w by places few)
          (held_more limit pass test rules rises outline domain more known.binders bound c (regions c) a good w by places few parts.1 e parts.0) h

      making_more : (o : Option Window) → IfOf window_good c o → ((w : Window) → w.claim ≡ c → by w ≡ more (outline.claim c).buffer w.dimension) →
          are_shown (O.making_obligations outline rules o known a c) ≡ true → are_shown (O.making_obligations later rules (if_window by o) (known_raised known) (raised more a) c) ≡ true
      making_more None one fits h =
          let old = places_of known.buffers (outline.claim c).buffer in
          let new = places_of (map (buffer_raised more) known.buffers) (outline.claim c).buffer in
          and_leads (shows rules tests known.binders (O.made outline rules old c a)) true (shows rules tests known.binders (O.made later rules new c (raised more a))) true
          (λ v. subst (λ (o : Option (List Places)). shows rules tests known.binders (O.made later rules o c (raised more a))
          ≡ true) (spots_same more known.buffers (outline.claim c).buffer) (made_known old (spot_within known.buffers (outline.claim c).buffer small) v))
          (stays true) h
      making_more (Some w) one fits h =
          let old = places_of known.buffers (outline.claim c).buffer in
          let new = places_of (map (buffer_raised more) known.buffers) (outline.claim c).buffer in
          let spots = spots_same more known.buffers (outline.claim c).buffer in
          let next = window_raised by w in
          and_leads (shows rules tests known.binders (O.slid outline rules old w c a)) (shows rules tests known.binders (O.held outline rules old w known.binders c a) && true)
          (shows rules tests known.binders (O.slid later rules new next c (raised more a))) (shows rules tests known.binders (O.held later rules new next known.binders c (raised more a)) && true)
          (λ v. subst (λ (o : Option (List Places)). shows rules tests known.binders (O.slid later rules o next c (raised more a))
          ≡ true) spots (slid_known w old (spot_within known.buffers (outline.claim c).buffer small) v))
          (and_leads (shows rules tests known.binders (O.held outline rules old w known.binders c a)) true (shows rules tests known.binders (O.held later rules new next known.binders c
          (raised more a))) true
          (λ v. subst (λ (o : Option (List Places)). shows rules tests known.binders (O.held later rules o next known.binders c (raised more a))
          ≡ true) spots (held_known w old (spot_within known.buffers (outline.claim c).buffer small) one.passes (fits w one.claim) v))
          (stays true)) h

      earlier_more : (begin line : ℕ) → are_shown (O.earlier_obligations outline rules begin line known a c) ≡ true →
          are_shown (O.earlier_obligations later rules begin line (known_raised known) (raised more a) c) ≡ true
      earlier_more begin line h =
          (λ j. are_shown (if sym (updates_same (by_more more) outline.setting (outline.claim c).buffer (outline.claim c).function a) j then owed (raised more a) else []))
          ∙ (sym (of (updates outline.setting a (outline.claim c).buffer (outline.claim c).function)) ∙ h)
        where
          owed : Statement → List Obligation
          owed b =
              O.obligation outline rules NotMade (rules.claim_line c) known (Named (list_any (λ d. O.follows outline rules d c) known.own))
              ∷ O.obligation outline rules (turn_code (O.turn_line outline rules b begin c)) (or_same (O.turn_line outline rules b begin c) (rules.claim_line c)) known (InTurn c b)
              ∷ map (λ d. O.obligation outline rules NotMade (rules.claim_line c) known (Inside (O.region_of outline rules c) (O.region_of outline rules d))) (filter
              (λ d. O.follows outline rules d c) known.own)

          of : (v : Bool) → are_shown (if v then owed a else []) ≡ are_shown (if v then owed (raised more a) else [])
          of true =
              λ j. list_any (λ d. O.follows outline rules d c) known.own && (in_turn_same limit pass test rules rises outline domain more known.binders c a j
              && are_shown (map (λ d. O.obligation outline rules NotMade (rules.claim_line c) known (Inside (O.region_of outline rules c) (O.region_of outline rules d))) (filter
              (λ d. O.follows outline rules d c) known.own)))
          of false = refl

      claim_more : (kept : List Window) (begin line : ℕ) → list_all window_good kept ≡ true → ((w : Window) → w.claim ≡ c → by w ≡ more (outline.claim c).buffer w.dimension) →
          are_shown (O.claim_obligations outline rules kept begin line known a c) ≡ true →
          are_shown (O.claim_obligations later rules (map (window_raised by) kept) begin line (known_raised known) (raised more a) c) ≡ true
      claim_more kept begin line passes fits h =
          let claim = outline.claim c in
          let writing = writes outline.setting a claim.buffer claim.function in
          let later_writing = writes outline.setting (raised more a) claim.buffer claim.function in
          let making = O.making_obligations outline rules (window_of kept c) known a c in
          let later_making = O.making_obligations later rules (window_of (map (window_raised by) kept) c) (known_raised known) (raised more a) c in
          let earlier = O.earlier_obligations outline rules begin line known a c in
          let later_earlier = O.earlier_obligations later rules begin line (known_raised known) (raised more a) c in
          and_leads writing (are_shown (making ++ earlier)) later_writing (are_shown (later_making ++ later_earlier))
          (λ v. sym (writes_same (by_more more) outline.setting claim.buffer claim.function a) ∙ v)
          (join making earlier later_making later_earlier
          (λ v. subst (λ (o : Option Window). are_shown (O.making_obligations later rules o (known_raised known) (raised more a) c) ≡ true) (of_claim_same by kept c)
          (making_more (window_of kept c) (is_of window_good kept c passes) fits v))
          (earlier_more begin line)) h

    claims_more : (kept : List Window) (begin line : ℕ) (known : Known) (a : Statement) → list_all window_good kept ≡ true → list_all pass known.binders ≡ true →
        buffers_within known.buffers ≡ true → statement_passes pass test a ≡ true →
        (cs : List ℕ) → ((w : Window) → is_member w.claim cs ≡ true → by w ≡ more (outline.claim w.claim).buffer w.dimension) →
        are_shown (flat_map (O.claim_obligations outline rules kept begin line known a) cs) ≡ true →
        are_shown (flat_map (O.claim_obligations later rules (map (window_raised by) kept) begin line (known_raised known) (raised more a)) cs) ≡ true
    claims_more kept begin line known a passes bound small good [] fits h = h
    claims_more kept begin line known a passes bound small good (c ∷ cs) fits h =
        join (O.claim_obligations outline rules kept begin line known a c) (flat_map (O.claim_obligations outline rules kept begin line known a) cs)
        (O.claim_obligations later rules (map (window_raised by) kept) begin line (known_raised known) (raised more a) c)
        (flat_map (O.claim_obligations later rules (map (window_raised by) kept) begin line (known_raised known) (raised more a)) cs)
        (claim_more known bound small a good c kept begin line passes
        (λ w e. subst (λ (d : ℕ). by w ≡ more (outline.claim d).buffer w.dimension) e (fits w (first_member w.claim c cs (sym e)))))
        (claims_more kept begin line known a passes bound small good cs (λ w m. fits w (later_member w.claim c cs m))) h
      where
        first_member : (x c : ℕ) (cs : List ℕ) → c ≡ x → is_member x (c ∷ cs) ≡ true
        first_member x c cs e = one (c == x) (eq-eqb c x e)
          where
            one : (v : Bool) → v ≡ true → (v || is_member x cs) ≡ true
            one true e = refl
            one false e = absurd (cc e)

        later_member : (x c : ℕ) (cs : List ℕ) → is_member x cs ≡ true → is_member x (c ∷ cs) ≡ true
        later_member x c cs m = two (c == x)
          where
            two : (v : Bool) → (v || is_member x cs) ≡ true
            two true = refl
            two false = m

  -- ---- what is known

  left_same : (a : Statement) (cs : List ℕ) → filter (O.is_left outline rules a) cs ≡ filter (O.is_left later rules (raised more a)) cs
  left_same a cs = λ j. filter (λ (c : ℕ). not (changes_same (by_more more) a (outline.claim c).buffer j)) cs

  loop_known : (i : ℕ) (x : Span1) (a : Statement) (known : Known) → known_raised (O.in_loop outline rules i x a known) ≡ O.in_loop later rules i x (raised more a) (known_raised known)
  loop_known i x a known = λ j. record {
    binders = Ranged i x ∷ known.binders;
    buffers = map
        (buffer_raised more) known.buffers;
    claims = left_same a known.claims j;
    own = [];
    updating = known.updating;
  }

  within_known : (a : Statement) (next : List ℕ) (known : Known) → known_raised (O.within outline rules a next known) ≡ O.within later rules (raised more a) next (known_raised known)
  within_known a next known = λ j. record {
    binders = known.binders;
    buffers = map (buffer_raised more) known.buffers;
    claims = known.claims;
    own = known.own;
    updating = flat_map (λ (c : ℕ). map (λ (d : ℕ). record { before = d; next = c }) (filter (λ (d : ℕ). O.follows outline rules d c) known.own))
        (filter (λ (c : ℕ). updates_same (by_more more) outline.setting (outline.claim c).buffer (outline.claim c).function a j) next) ++ known.updating;
  }

  buffers_same : (a : Statement) (xs : List Buffer) → map (buffer_raised more) (O.more_buffers outline rules a xs) ≡ O.more_buffers later rules (raised more a) (map (buffer_raised more) xs)
  buffers_same (Seq all) xs = refl
  buffers_same (For k x kind body) xs = refl
  buffers_same (Let k pick forms) xs = refl
  buffers_same (First k a c) xs = refl
  buffers_same (Guard low high body) xs = refl
  buffers_same (Alloc c f places) xs = refl
  buffers_same (Fetch c g region) xs = refl
  buffers_same (Store c k at e) xs = refl
  buffers_same (Publish c) xs = refl

  binders_same : (a : Statement) (xs : List Binder) → O.more_binders outline rules a xs ≡ O.more_binders later rules (raised more a) xs
  binders_same (Seq all) xs = refl
  binders_same (For k x kind body) xs = refl
  binders_same (Let k pick forms) xs = refl
  binders_same (First k a c) xs = refl
  binders_same (Guard low high body) xs = refl
  binders_same (Alloc c f places) xs = refl
  binders_same (Fetch c g region) xs = refl
  binders_same (Store c k at e) xs = refl
  binders_same (Publish c) xs = refl

  binders_good : (a : Statement) (xs : List Binder) → statement_passes pass test a ≡ true → list_all pass xs ≡ true →
      list_all pass (O.more_binders outline rules a xs) ≡ true
  binders_good (Seq all) xs f h = h
  binders_good (For k x kind body) xs f h = h
  binders_good (Let k pick forms) xs f h = both (pass (Picked k pick forms)) (list_all pass xs) f h
  binders_good (First k a c) xs f h = h
  binders_good (Guard low high body) xs f h = h
  binders_good (Alloc c g places) xs f h = h
  binders_good (Fetch c g region) xs f h = h
  binders_good (Store c k at e) xs f h = h
  binders_good (Publish c) xs f h = h

  buffers_small : (a : Statement) (xs : List Buffer) → folds_within limit (raised more a) ≡ true → buffers_within xs ≡ true → buffers_within (O.more_buffers outline rules a xs) ≡ true
  buffers_small (Seq all) xs f h = h
  buffers_small (For k x kind body) xs f h = h
  buffers_small (Let k pick forms) xs f h = h
  buffers_small (First k a c) xs f h = h
  buffers_small (Guard low high body) xs f h = h
  buffers_small (Alloc c g places) xs f h = both (list_all (place_within limit) (places_raised (more c) places)) (buffers_within xs) f h
  buffers_small (Fetch c g region) xs f h = h
  buffers_small (Store c k at e) xs f h = h
  buffers_small (Publish c) xs f h = h

  makes_same : (a : Statement) (next : List ℕ) → O.makes outline rules a next ≡ O.makes later rules (raised more a) next
  makes_same (Seq all) next = refl
  makes_same (For k x kind body) next = refl
  makes_same (Let k pick forms) next = refl
  makes_same (First k a c) next = refl
  makes_same (Guard low high body) next = refl
  makes_same (Alloc c f places) next = refl
  makes_same (Fetch c g region) next = refl
  makes_same (Store c k at e) next = refl
  makes_same (Publish c) next = refl

  onwards_known : (a : Statement) (next : List ℕ) (known : Known) → known_raised (O.onwards outline rules a next known) ≡ O.onwards later rules (raised more a) next (known_raised known)
  onwards_known a next known = λ j. record {
    binders = binders_same a known.binders j;
    buffers = buffers_same a known.buffers j;
    claims = makes_same a next j ++ left_same a known.claims j;
    own = makes_same a next j ++ left_same a known.own j;
    updating = known.updating;
  }

  symbol_same : (i : ℕ) (x : Span1) (known : Known) → O.has_symbol outline rules i x known ≡ O.has_symbol later rules i x (known_raised known)
  symbol_same i x known =
      λ j. span_has i x
      || (list_any (binder_has i) known.binders
      || (symbols_same more i known.buffers j
      || (list_any (λ c. list_any (span_has i) (O.region_of outline rules c)) known.claims
      || list_any (λ (u : Updating). list_any (span_has i) (O.region_of outline rules u.before) || list_any (span_has i) (O.region_of outline rules u.next)) known.updating)))

  -- ---- windows along a loop

  kept_same : (i : ℕ) (a : Statement) (line : ℕ) → map (window_raised by) (O.kept_of outline rules i a line) ≡ O.kept_of later rules i (raised more a) line
  kept_same i (Seq row) line =
      filter_same by (λ (w : Window). (w.symbol == i) && (not (is_update (outline.claim w.claim).definition) && stands_alone outline i w.claim row line)) (λ w. refl) outline.windows
      ∙ (λ j. filter (λ (w : Window). (w.symbol == i) && (not (is_update (outline.claim w.claim).definition)
      && stands_same (by_more more) outline i w.claim row line j)) (map (window_raised by) outline.windows))
  kept_same i (For k x kind body) line = refl
  kept_same i (Let k pick forms) line = refl
  kept_same i (First k a c) line = refl
  kept_same i (Guard low high body) line = refl
  kept_same i (Alloc c f places) line = refl
  kept_same i (Fetch c g region) line = refl
  kept_same i (Store c k at e) line = refl
  kept_same i (Publish c) line = refl

  without_same : (cs : List ℕ) (ws : List Window) → map (window_raised by) (without cs ws) ≡ without cs (map (window_raised by) ws)
  without_same cs ws = filter_same by (λ (w : Window). not (is_member w.claim cs)) (λ w. refl) ws

  module _ (windows : list_all window_good outline.windows ≡ true) (regions : (c : ℕ) → list_all (span_passes test) (outline.claim c).region ≡ true) where
    kept_good : (i : ℕ) (a : Statement) (line : ℕ) → list_all window_good (O.kept_of outline rules i a line) ≡ true
    kept_good i (Seq row) line =
        filter_passes window_good (λ (w : Window). (w.symbol == i) && (not (is_update (outline.claim w.claim).definition) && stands_alone outline i w.claim row line)) outline.windows windows
    kept_good i (For k x kind body) line = refl
    kept_good i (Let k pick forms) line = refl
    kept_good i (First k a c) line = refl
    kept_good i (Guard low high body) line = refl
    kept_good i (Alloc c f places) line = refl
    kept_good i (Fetch c g region) line = refl
    kept_good i (Store c k at e) line = refl
    kept_good i (Publish c) line = refl

    mutual
      pub turn_more : (kept : List Window) (a : Statement) (line : ℕ) (known : Known) → list_all window_good kept ≡ true → list_all pass known.binders ≡ true →
          buffers_within known.buffers ≡ true →
          statement_passes pass test a ≡ true → folds_within limit (raised more a) ≡ true → ((l : ℕ) → line ≤ l + 1 → l ≤ line + lines a - 1 → Fits l) →
          are_shown (O.turn_obligations outline rules kept a line known) ≡ true →
          are_shown (O.turn_obligations later rules (map (window_raised by) kept) (raised more a) line (known_raised known)) ≡ true
      turn_more kept (Seq all) line known passes bound small good few fits h = block_more kept all line (O.in_block outline rules known) passes bound small good few fits h
      turn_more kept (For i x kind body) line known passes bound small good few fits h =
          let parts = and_parts (pass (Ranged i x) && span_passes test x) (statement_passes pass test body) good in
          let own = and_parts (pass (Ranged i x)) (span_passes test x) parts.0 in
          let inner = O.in_loop outline rules i x body known in
          let keeps = O.kept_of outline rules i body (line + 1) in
          and_leads (not (O.has_symbol outline rules i x known)) (are_shown (O.turn_obligations outline rules keeps body (line + 1) inner))
          (not (O.has_symbol later rules i x (known_raised known)))
          (are_shown (O.turn_obligations later rules (O.kept_of later rules i (raised more body) (line + 1)) (raised more body) (line + 1) (O.in_loop later rules i x (raised more body)
          (known_raised known))))
          (λ v. ap not (sym (symbol_same i x known)) ∙ v)
          (λ v. (λ j. are_shown (O.turn_obligations later rules (sym (kept_same i body (line + 1)) j) (raised more body) (line + 1) (sym (loop_known i x body known) j)))
          ∙ turn_more keeps body (line + 1) inner (kept_good i body (line + 1)) (both (pass (Ranged i x)) (list_all pass known.binders) own.0 bound) small parts.1 few
          (λ l low high. fits l (omega (arith, low)) (omega (arith, high))) v) h
      turn_more kept (Let i pick forms) line known passes bound small good few fits h =
          and_leads (not (O.has_symbol outline rules i (from_each forms) known)) true (not (O.has_symbol later rules i (from_each forms) (known_raised known))) true
          (λ v. ap not (sym (symbol_same i (from_each forms) known)) ∙ v) (stays true) h
      turn_more kept (First i a b) line known passes bound small good few fits h =
          let fewer = and_parts (folds_within limit (raised more a)) (folds_within limit (raised more b)) few in
          let parts = and_parts (statement_passes pass test a) (statement_passes pass test b) good in
          let inner = O.in_block outline rules known in
          join (O.turn_obligations outline rules [] a (line + 1) inner) (O.turn_obligations outline rules [] b (line + 2 + lines a) inner)
          (O.turn_obligations later rules [] (raised more a) (line + 1) (known_raised inner)) (O.turn_obligations later rules [] (raised more b) (line + 2 + lines (raised more a))
          (known_raised inner))
          (turn_more [] a (line + 1) inner refl bound small parts.0 fewer.0 (λ l low high. fits l (omega (arith, low)) (omega (arith, high))))
          (λ v. (λ j. are_shown (O.turn_obligations later rules [] (raised more b) (line + 2 + sym (lines_same (by_more more) a) j) (known_raised inner)))
          ∙ turn_more [] b (line + 2 + lines a) inner refl bound small parts.1 fewer.1 (λ l low high. fits l (omega (arith, low)) (omega (arith, high))) v) h
      turn_more kept (Guard low high body) line known passes bound small good few fits h =
          let parts = and_parts (pass (Passed low high)) (statement_passes pass test body) good in
          turn_more [] body (line + 1) (O.in_guard outline rules low high known) refl (both (pass (Passed low high)) (list_all pass known.binders) parts.0 bound) small parts.1 few
          (λ l from to. fits l (omega (arith, from)) (omega (arith, to))) h
      turn_more kept (Alloc b f places) line known passes bound small good few fits h =
          and_leads (is_free (places_of known.buffers b)) true (is_free (places_of (map (buffer_raised more) known.buffers) b)) true
          (λ v. sym (free_same (more b) (places_of known.buffers b) ∙ ap is_free (spots_same more known.buffers b)) ∙ v) (stays true) h
      turn_more kept (Fetch b g region) line known passes bound small good few fits h =
          and_leads (shows rules (slid_nests outline rules domain) known.binders (O.seated outline rules (places_of known.buffers b) region)) true
          (shows rules (slid_nests outline rules domain) known.binders (O.seated later rules (places_of (map (buffer_raised more) known.buffers) b) region)) true
          (seated_known known b region) (stays true) h
      turn_more kept (Store b k at e) line known passes bound small good few fits h =
          let n = outline.setting.dimensions b in store_more line known b (outline.setting.buffer_function b) k (take n at) (drop n at) e h
      turn_more kept (Publish c) line known passes bound small good few fits h = h

      block_more : (kept : List Window) (all : Statements) (line : ℕ) (known : Known) → list_all window_good kept ≡ true → list_all pass known.binders ≡ true →
          buffers_within known.buffers ≡ true →
          block_passes pass test all ≡ true → block_within limit (block_raised more all) ≡ true → ((l : ℕ) → line ≤ l + 1 → l ≤ line + block_lines all - 1 → Fits l) →
          are_shown (O.block_obligations outline rules kept all line known) ≡ true →
          are_shown (O.block_obligations later rules (map (window_raised by) kept) (block_raised more all) line (known_raised known)) ≡ true
      block_more kept Empty line known passes bound small good few fits h = h
      block_more kept (Then a rest) line known passes bound small good few fits h =
          let fewer = and_parts (folds_within limit (raised more a)) (block_within limit (block_raised more rest)) few in
          let parts = and_parts (statement_passes pass test a) (block_passes pass test rest) good in
          let last = line + lines a - 1 in
          let next = outline.named last in
          let after = outline.named (line + lines (raised more a) - 1) in
          let wider = map (window_raised by) kept in
          join (O.turn_obligations outline rules [] a line (O.within outline rules a next known))
          (flat_map (O.claim_obligations outline rules kept line last known a) next ++ O.block_obligations outline rules (without next kept) rest (line + lines a)
          (O.onwards outline rules a next known))
          (O.turn_obligations later rules [] (raised more a) line (O.within later rules (raised more a) after (known_raised known)))
          (flat_map (O.claim_obligations later rules wider line (line + lines (raised more a) - 1) (known_raised known) (raised more a)) after
          ++ O.block_obligations later rules (without after wider) (block_raised more rest) (line + lines (raised more a)) (O.onwards later rules (raised more a) after (known_raised known)))
          (λ v. (λ j. are_shown (O.turn_obligations later rules [] (raised more a) line (O.within later rules (raised more a) (outline.named (line + sym (lines_same
          (by_more more) a) j - 1)) (known_raised known))))
          ∙ ((λ j. are_shown (O.turn_obligations later rules [] (raised more a) line (sym (within_known a next known) j)))
          ∙ turn_more [] a line (O.within outline rules a next known) refl bound small parts.0 fewer.0 (λ l low high. fits l low (omega (arith, high))) v))
          (join (flat_map (O.claim_obligations outline rules kept line last known a) next) (O.block_obligations outline rules (without next kept) rest (line + lines a)
          (O.onwards outline rules a next known))
          (flat_map (O.claim_obligations later rules wider line (line + lines (raised more a) - 1) (known_raised known) (raised more a)) after)
          (O.block_obligations later rules (without after wider) (block_raised more rest) (line + lines (raised more a)) (O.onwards later rules (raised more a) after (known_raised known)))
          (λ v. (λ j. are_shown (flat_map (O.claim_obligations later rules wider line (line + sym (lines_same (by_more more) a) j - 1) (known_raised known) (raised more a)) (outline.named
          (line + sym (lines_same (by_more more) a) j - 1))))
          ∙ claims_more regions kept line last known a passes bound small parts.0 next (fits last (omega arith) (omega arith)) v)
          (λ v. (λ j. are_shown (O.block_obligations later rules (without (outline.named (line + sym (lines_same (by_more more) a) j - 1)) wider) (block_raised more rest) (line + sym
          (lines_same (by_more more) a) j)
          (O.onwards later rules (raised more a) (outline.named (line + sym (lines_same (by_more more) a) j - 1)) (known_raised known))))
          ∙ ((λ j. are_shown (O.block_obligations later rules (sym (without_same next kept) j) (block_raised more rest) (line + lines a) (sym (onwards_known a next known) j)))
          ∙ block_more (without next kept) rest (line + lines a) (O.onwards outline rules a next known) (filter_passes window_good (λ (w : Window). not (is_member w.claim next)) kept passes)
          (binders_good a known.binders parts.0 bound) (buffers_small a known.buffers fewer.0 small) parts.1 fewer.1 (λ l low high. fits l (omega (arith, low)) (omega (arith, high))) v))) h

    pub shown_more : (a : Statement) (line : ℕ) (known : Known) → list_all pass known.binders ≡ true → buffers_within known.buffers ≡ true → statement_passes pass test a ≡ true →
        folds_within limit (raised more a) ≡ true → ((l : ℕ) → line ≤ l + 1 → l ≤ line + lines a - 1 → Fits l) → are_shown (O.obligations outline rules a line known) ≡ true →
        are_shown (O.obligations later rules (raised more a) line (known_raised known)) ≡ true
    shown_more a line known bound small good few fits h = turn_more [] a line known refl bound small good few fits h
