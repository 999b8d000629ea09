-- How the lines of a plan are spelled.
use Rattle.std.specs.Prelude.{ℕ, List, [], ◌∷◌, ◌++◌, codes}
use Rattle.std.specs.List.{flat_map}
use Rattle.tree.specs.Term.{Term}
use Rattle.lin.specs.Forms.{Form}
use Rattle.lin.specs.declared.span.Span1.{Span1}
use Rattle.plan.specs.declared.stmt.Kind.{Kind}
use Rattle.plan.specs.declared.stmt.Kind.TheVariants as kind
use Rattle.plan.specs.declared.stmt.Pick.{Pick}
use Rattle.plan.specs.declared.stmt.Pick.TheVariants as pick
use Rattle.plan.specs.declared.stmt.Places.{Places}
use Rattle.plan.specs.declared.stmt.Places.TheVariants as places
use Rattle.plan.specs.Plan.{Declaration, Index, At, Found, Coordinate}
use Rattle.tree.specs.Token.Spelling.{type_text}
use Rattle.spelling.specs.Words.Spelling.{count_text, symbol_text, separated_text, bracketed_text, form_text, forms_text, span_text, region_text, counts_text}
use Rattle.spelling.specs.Terms.Spelling as terms
use Rattle.nest.specs.Blocks.Line.{Line, PlanLine, InputLine, OutputLine, GroupLine, ForLine, LetLine, FirstLine, ElseLine, GuardLine, EndLine, AllocLine, FetchLine, StoreLine, PublishLine}

abbrev pub kind_text : Kind → List ℕ
kind_text kind.Serial = codes "serial"
kind_text kind.Unroll = codes "unroll"
kind_text kind.Vector = codes "vector"

abbrev pub pick_text : Pick → List ℕ
pick_text pick.Min = codes "min"
pick_text pick.Max = codes "max"

-- a name, a type and extents
unfoldable pub declaration_text : Declaration → List ℕ
declaration_text d = d.name ++ (32 ∷ (type_text d.ty ++ (32 ∷ counts_text d.extents)))

-- `L#n`, so many places from an origin on, or `%n`, folded
unfoldable pub place_text : Places → List ℕ
place_text (places.From origin count) = form_text origin ++ (35 ∷ count_text count)
place_text (places.Folded count) = 37 ∷ count_text count

-- `[P;P;..]`
unfoldable pub places_text : List Places → List ℕ
places_text all = bracketed_text 59 place_text all

-- `=L`, or `~EXPR` where the index has to be found
unfoldable pub index_text : Index → List ℕ
index_text (At form) = 61 ∷ form_text form
index_text (Found term) = 126 ∷ terms.term_text term

-- `v=L` or `v~EXPR`
unfoldable pub coordinate_text : Coordinate → List ℕ
coordinate_text c = c.variable ++ index_text c.index

-- with a blank behind it
abbrev pub spaced_coordinate : Coordinate → List ℕ
spaced_coordinate c = coordinate_text c ++ (32 ∷ [])

unfoldable pub input_text : Declaration → List ℕ
input_text d = codes "input " ++ declaration_text d

unfoldable pub output_text : Declaration → List ℕ
output_text d = codes "output " ++ declaration_text d

unfoldable pub group_text : ℕ → List ℕ → List Span1 → List ℕ → List ℕ
group_text n f region grid = codes "group " ++ (count_text n ++ (32 ∷ (f ++ (32 ∷ (region_text region ++ (codes " grid " ++ separated_text 32 count_text grid))))))

unfoldable pub for_text : ℕ → Span1 → Kind → List ℕ
for_text i span k = codes "for " ++ (symbol_text i ++ (32 ∷ (span_text span ++ (32 ∷ kind_text k))))

unfoldable pub let_text : ℕ → Pick → List Form → List ℕ
let_text i p forms = codes "let " ++ (symbol_text i ++ (32 ∷ (pick_text p ++ (32 ∷ forms_text forms))))

abbrev pub first_text : ℕ → List ℕ
first_text i = codes "first " ++ symbol_text i

unfoldable pub guard_text : Form → Form → List ℕ
guard_text low high = codes "guard " ++ (form_text low ++ (codes "<=" ++ form_text high))

unfoldable pub alloc_text : ℕ → List ℕ → List Places → List ℕ
alloc_text b f all = codes "alloc b" ++ (count_text b ++ (32 ∷ (f ++ (32 ∷ places_text all))))

unfoldable pub fetch_text : ℕ → ℕ → List Span1 → List ℕ
fetch_text b g region = codes "fetch b" ++ (count_text b ++ (32 ∷ (count_text g ++ (32 ∷ region_text region))))

unfoldable pub store_text : ℕ → ℕ → List Coordinate → Term → List ℕ
store_text b k at e = codes "store b" ++ (count_text b ++ (32 ∷ (count_text k ++ (32 ∷ (flat_map spaced_coordinate at ++ terms.term_text e)))))

abbrev pub publish_text : ℕ → List ℕ
publish_text c = codes "publish @" ++ count_text c

-- a line, without its line feed
abbrev pub line_text : Line → List ℕ
line_text (PlanLine name) = codes "plan 1 " ++ name
line_text (InputLine d) = input_text d
line_text (OutputLine d) = output_text d
line_text (GroupLine n f region grid) = group_text n f region grid
line_text (ForLine i span k) = for_text i span k
line_text (LetLine i p forms) = let_text i p forms
line_text (FirstLine i) = first_text i
line_text ElseLine = codes "else"
line_text (GuardLine low high) = guard_text low high
line_text EndLine = codes "end"
line_text (AllocLine b f all) = alloc_text b f all
line_text (FetchLine b g region) = fetch_text b g region
line_text (StoreLine b k at e) = store_text b k at e
line_text (PublishLine c) = publish_text c
