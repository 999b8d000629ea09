-- The statements of a function in whose loops nothing is computed.
use Rattle.std.proofs.Common.{◌≡◌, ℕ, List, [], ◌∷◌, ◌++◌, map, Option, Some, refl, sym, ap, subst, ◌∙◌}
use Rattle.std.specs.Prelude.{IsSomeAnd, slice_get}
use Rattle.std.specs.Option.{option_map}
use Rattle.std.specs.Global.{Vec}
use Rattle.std.proofs.lemmas.Option.{slice_get-map}
use Rattle.std.proofs.lemmas.List.{map-append}
use Rattle.plan.specs.declared.stmt.Places.{Places}
use Rattle.plan.specs.declared.stmt.Stmt.{Stmt}
use Rattle.plan.specs.declared.stmt.Coordinate.{Coordinate as CodeCoordinate}
use Rattle.plan.specs.Plan.{Coordinate, Statement, Seq, Alloc, Publish, Statements, block}
use Rattle.lin.specs.Forms.{Form}
use Rattle.tree.specs.Term.{Term, term_of}
use Rattle.tree.specs.Substitution.{with_calls}
use Rattle.plan.specs.View.{coordinate_of, statement_of}
use Rattle.plan.specs.Lists.{list_statements}
use Rattle.sched.specs.declared.skeleton.Step.{Step}
use Rattle.sched.specs.declared.skeleton.Step.TheVariants.{Turns, Named, Tested}
use Rattle.sched.specs.Runs.{lines_to}
use Rattle.sched.specs.Skeleton.{NestText, SkeletonText}
use Rattle.sched.specs.declared.definitions.Formula.{Formula}
use Rattle.sched.specs.Stored.{FormulaText, StoredText, formula_of}
use Rattle.blocks.specs.declared.loading.Load.{Load}
use Rattle.sched.specs.Loading.{Loads, as_load}
use Rattle.blocks.specs.Loading.{load_of}
use Rattle.blocks.specs.declared.whole.Fetch.{Fetch}
use Rattle.blocks.specs.Fetches.{FetchText, fetch_seen, with_fetch, with_fetches}
use Rattle.sched.specs.Bodies.{first_left, other_lefts}
use Rattle.blocks.specs.Bodies.{IsIndex, AreCoordinates, IsStored, IsStore, with_step, IsNest, IsBodyWith, body}

step_of : (s : Step) (steps : List Step) (inner : Statements) → lines_to (s ∷ steps) inner ≡ with_step s (lines_to steps inner)
step_of (Turns i x kind) steps inner = refl
step_of (Named i pick forms) steps inner = refl
step_of (Tested low high) steps inner = refl

pub stepped : (s : Step) (steps : List Step) (inner m n : Statements) → n ≡ with_step s m → m ≡ lines_to steps inner → n ≡ lines_to (s ∷ steps) inner
stepped s steps inner m n h e = h ∙ (ap (with_step s) e ∙ sym (step_of s steps inner))

-- the first coordinate, before others
pub coordinates_made : (ls : Loads) (x : List ℕ) (xs : List (List ℕ)) (o : Option Form) (os : List (Option Form)) (a : Option Term) (lefts rest : List (Option Term))
    (c : CodeCoordinate) (cs ds : List CodeCoordinate) → (coordinate_of c).variable ≡ x → IsIndex ls o a (coordinate_of c).index → a ≡ first_left lefts
    → AreCoordinates ls xs os rest (map coordinate_of cs) → rest ≡ other_lefts lefts → ds ≡ c ∷ cs → AreCoordinates ls (x ∷ xs) (o ∷ os) lefts (map coordinate_of ds)
coordinates_made ls x xs o os a lefts rest c cs ds named is e are f h =
    let here = subst (λ (b : Option Term). IsIndex ls o b (coordinate_of c).index) e is in
    let behind = subst (λ (l : List (Option Term)). AreCoordinates ls xs os l (map coordinate_of cs)) f are in
    subst (λ (l : List CodeCoordinate). AreCoordinates ls (x ∷ xs) (o ∷ os) lefts (map coordinate_of l)) (sym h) (named, here, behind)

-- what the definition of this number stores
pub store_made : (ls : Loads) (xs ys : List (List ℕ)) (n : NestText) (cs : List Coordinate) (e : Term) (fs : List Formula) (d : ℕ) (f : Formula) → slice_get fs d ≡ Some f → xs ≡ ys
    → AreCoordinates ls xs n.at (map (option_map term_of) f.at.items) cs → e ≡ with_calls (as_load ls) (term_of f.value)
    → IsSomeAnd (slice_get (map formula_of fs) d) (IsStored ls ys n cs e)
store_made ls xs ys n cs e fs d f is same are value =
    let at = subst (λ (zs : List (List ℕ)). AreCoordinates ls zs n.at (map (option_map term_of) f.at.items) cs) same are in
    let found : slice_get (map formula_of fs) d ≡ Some (formula_of f) = slice_get-map formula_of fs d ∙ ap (option_map formula_of) is in
    let stored : IsStored ls ys n cs e (formula_of f) = record { at = at; value = value } in
    subst (λ (o : Option FormulaText). IsSomeAnd o (IsStored ls ys n cs e)) (sym found) stored

-- a function is loaded by one more claim
pub load_more : (old kept : Vec Load) (now : List Load) (load : Load) (x : List ℕ) → kept ≡ old → now ≡ kept.items ++ load ∷ [] → load.function.now ≡ x
    → map load_of now ≡ map load_of old.items ++ (x, load.claim) ∷ []
load_more old kept now load x same pushed named =
    ap (map load_of) pushed ∙ (map-append load_of kept.items (load ∷ []) ∙ (λ i. map load_of (same i).items ++ (named i, load.claim) ∷ []))

-- the nest of this definition, its calls as these loads
module _ (g : StoredText) (fs : List FormulaText) (ls : Loads) (d : ℕ) (n : NestText) where
  pub nest_made : (store : Stmt) (inner xs : List Stmt) → IsStore g fs ls d n (statement_of store) → inner ≡ store ∷ []
      → block (list_statements xs) ≡ lines_to n.steps (block (list_statements inner)) → IsNest g fs ls d n (list_statements xs)
  nest_made store inner xs is e comes =
      record { store = statement_of store; stores = is; comes = comes ∙ ap (λ (l : List Stmt). lines_to n.steps (block (list_statements l))) e }

-- the last of some fetches before others, and the rest before these
last_first : (fs : List FetchText) (f : FetchText) (xs : List Statement) → with_fetches (fs ++ f ∷ []) xs ≡ with_fetches fs (with_fetch f xs)
last_first [] f xs = refl
last_first (g ∷ fs) f xs = ap (with_fetch g) (last_first fs f xs)

pub with_popped : (all left : List Fetch) (fetch : Fetch) (xs ys : List Stmt) (zs : List Statement) → all ≡ left ++ fetch ∷ []
    → list_statements ys ≡ with_fetch (fetch_seen fetch) (list_statements xs)
    → with_fetches (map fetch_seen all) (list_statements xs) ≡ zs → with_fetches (map fetch_seen left) (list_statements ys) ≡ zs
with_popped all left fetch xs ys zs popped made before =
    ap (with_fetches (map fetch_seen left)) made ∙ (sym (ap (λ (l : List FetchText). with_fetches l (list_statements xs)) (ap (map fetch_seen) popped ∙ map-append fetch_seen left (fetch ∷ []))
    ∙ last_first (map fetch_seen left) (fetch_seen fetch) (list_statements xs)) ∙ before)

-- the nests behind what is fetched, and the claim behind them
pub published : (claim : ℕ) (fetches : List FetchText) (publish : Stmt) (nests last inner : List Stmt) → last ≡ nests ++ publish ∷ [] → statement_of publish ≡ Publish claim
    → list_statements inner ≡ with_fetches fetches (list_statements last) → list_statements inner ≡ with_fetches fetches (list_statements nests ++ Publish claim ∷ [])
published claim fetches publish nests last inner e is_publish f =
    f ∙ ap (with_fetches fetches)
    (ap list_statements e ∙ (map-append statement_of nests (publish ∷ []) ∙ ap (λ (s : Statement). list_statements nests ++ s ∷ []) is_publish))

-- the whole, of its parts
pub body_joined : (g : StoredText) (k : SkeletonText) (places : List Places) (claim : ℕ) (fetches : List FetchText) (own : Stmt) (nests others ys : List Stmt)
    → statement_of own ≡ Alloc 0 g.subject.name places → list_statements others ≡ with_fetches fetches (list_statements nests ++ Publish claim ∷ [])
    → block (list_statements ys) ≡ lines_to k.head (block (statement_of own ∷ list_statements others)) → IsBodyWith g k places fetches (list_statements nests) claim (body (list_statements ys))
body_joined g k places claim fetches own nests others ys is_own are comes = record {
  is = ap Seq (comes ∙ ap (λ (l : List Statement). lines_to k.head (block l)) (λ i. is_own i ∷ are i));
}
