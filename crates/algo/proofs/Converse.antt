-- A file that is well formed keeps each condition that a refusal can name.
use Rattle.std.proofs.Common.{◌≡◌, ℕ, zero, suc, ◌+◌, ◌<◌, ◌≤◌, ◌||◌, inl, inr, List, [], ◌∷◌, ◌++◌, length, map, take, fold, get_or, All, Bool, true, false, Option, Some, None, IsSome, IsTrue, MatchOption, refl, sym, ap, ◌∙◌, subst, arith, append_assoc, append-nil, length-append}
use Rattle.std.specs.Prelude.{slice_get, not, is_some}
use Rattle.std.specs.List.{flat_map, AllByRecursion}
use Rattle.std.proofs.lemmas.Bool.{false≢true}
use Rattle.std.proofs.lemmas.Bool.Decides.{nat_tests}
use Rattle.std.proofs.lemmas.List.Elements.{All-head, All-tail}
use Rattle.std.proofs.lemmas.List.{map-append, length-map}
use Rattle.std.proofs.lemmas.List.Sums.{fold-append}
use Rattle.std.proofs.Math.Seq.{take-append_seam}
use Rattle.numeric.specs.declared.ty.Ty.{Ty}
use Rattle.meaning.specs.Image.View.{IsSampleType}
use Rattle.numeric.specs.declared.ty.Ty.TheVariants.{I32}
use Rattle.tree.specs.Term.{Term}
use Rattle.tree.specs.Names.{TakesCall}
use Rattle.tree.specs.Typing.{index_count}
use Rattle.tree.proofs.Uses.{each_call-weaker, All-left, All-right}
use Rattle.meaning.specs.Algorithm.{Change, Function, Algorithm}
use Rattle.meaning.specs.Names.{same_name, is_among}
use Rattle.meaning.specs.Conditions.{AreDistinct, callable, function_named, IsExpression, IsUpdate, IsFunction, IsAlgorithm, IsOutput, IsSmall, names_in}
use Rattle.meaning.proofs.Cases.{same_name_is}
use Rattle.algo.specs.Scoping.Expressions.{takes, is_known, takes_count}
use Rattle.algo.proofs.Doubles.{among_stands, stands_among}
use Rattle.expr.specs.Text.{IsSmall as IsSmallTerm}
use Rattle.expr.specs.Statements.Grammar.{IsSmallStatement, IsSmall as IsSmallFile}
use Rattle.expr.specs.Statements.Text.{FunctionText, UpdateText, StatementText, function, update, FileText}
use Rattle.algo.specs.declared.error.Code.{Code}
use Rattle.algo.specs.declared.error.Code.TheVariants.{BadToken, BadForm, TooLarge, Name, LaterCall, IndexCount, MovedVariable, NoDomain, TypesDiffer, Limit, SampleType}
use Rattle.algo.specs.declared.error.AlgoError.{AlgoError}
use Rattle.algo.specs.declared.error.AlgoError.TheVariants.{Memory, Refused}
use Rattle.algo.specs.Context.{function_names}
use Rattle.algo.specs.Saying.{says, range_said, input_said, function_said, change_said, with_update, after_statement, functions_said, name_declared, names_declared, IsLast, FollowsFunction, IsWellFormed}
use Rattle.algo.specs.Keeping.{UsesNames, CallsKnown, CallsCounted, Breaks, names_for, KeepsInput, KeepsOutput, KeepsFunction, KeepsUpdate, KeepsStatement, FileBreaks}
use Rattle.algo.proofs.Kept.{names-said, with_update-last, stands_left}
use Rattle.algo.proofs.Whole.{absent, calls}

-- ---- calls

takes_it : (o : Option (Ty × ℕ)) (n : ℕ) → TakesCall o n → IsTrue (takes o n)
takes_it None n h = absurd h
takes_it (Some f) n h = grind (arith, nat_tests)

some_taken : (o : Option (Ty × ℕ)) (n : ℕ) → TakesCall o n → IsSome o
some_taken None n h = absurd h
some_taken (Some f) n h = refl

abbrev pick : Function → List ℕ → Option (Ty × ℕ) → Option (Ty × ℕ)
pick g x o = elim (same_name g.name x) [ true ↦ Some (g.ty, length g.variables) | false ↦ o ]

among_input : (b : Bool) (x : Ty × ℕ) → IsSome (elim b [ true ↦ Some x | false ↦ None ]) → (b || false) ≡ true
among_input true x h = refl
among_input false x h = absurd (false≢true h)

among_more : (b c rest : Bool) (x : Ty × ℕ) (o : Option (Ty × ℕ)) → IsSome (elim c [ true ↦ Some x | false ↦ o ]) → (IsSome o → (b || rest) ≡ true) → (b || (c || rest)) ≡ true
among_more true c rest x o h f = refl
among_more false true rest x o h f = refl
among_more false false rest x o h f = f h

-- what can be called has the name of the input or of a function
callable_among : (a : Algorithm) (fs : List Function) (x : List ℕ) → IsSome (callable a fs x) → is_among (a.input ∷ function_names fs) x ≡ true
callable_among a [] x h = among_input (same_name a.input x) (a.input_ty, length a.input_extents) h
callable_among a (f ∷ fs) x h = among_more (same_name a.input x) (same_name f.name x) (is_among (function_names fs) x) (f.ty, length f.variables) (callable a fs x) h (callable_among a fs x)

-- one more function of another name changes nothing
callable_more : (a : Algorithm) (fs : List Function) (f : Function) (x : List ℕ) → same_name f.name x ≡ false → callable a (fs ++ f ∷ []) x ≡ callable a fs x
callable_more a [] f x h = ap (λ (b : Bool). elim b [ true ↦ Some (f.ty, length f.variables) | false ↦ callable a [] x ]) h
callable_more a (g ∷ gs) f x h = ap (pick g x) (callable_more a gs f x h)

among_longer : (xs ys : List (List ℕ)) (x : List ℕ) → is_among xs x ≡ true → is_among (xs ++ ys) x ≡ true
among_longer xs ys x h = let s = among_stands xs x h in stands_among (xs ++ ys) s.0 x (stands_left xs ys s.0 x s.1)

-- ---- the functions that statements say

with_update-names : (fs : List Function) (u : Change) → function_names (with_update fs u) ≡ function_names fs
with_update-names [] u = refl
with_update-names (f ∷ []) u = refl
with_update-names (f ∷ g ∷ fs) u = ap (λ l. f.name ∷ l) (with_update-names (g ∷ fs) u)

names_after : (fs : List Function) (ss : List (StatementText Term)) → function_names (fold after_statement fs ss) ≡ function_names fs ++ flat_map name_declared ss
names_after fs [] = sym (append-nil (function_names fs))
names_after fs (function s ∷ ss) =
    names_after (fs ++ function_said s ∷ []) ss
    ∙ ap (λ l. l ++ flat_map name_declared ss) (map-append (λ (f : Function). f.name) fs (function_said s ∷ []))
    ∙ append_assoc (function_names fs) (s.name ∷ []) (flat_map name_declared ss)
names_after fs (update s ∷ ss) = names_after (with_update fs (change_said s)) ss ∙ ap (λ l. l ++ flat_map name_declared ss) (with_update-names fs (change_said s))

-- the function with further updates
abbrev with_changes : Function → List Change → Function
with_changes f cs = record f { changes = f.changes ++ cs }

-- the functions are these, then the function with further updates, and then others
record Grown (earlier : List Function) (f : Function) (all : List Function) : Type 0 where
  changes : List Change
  more : List Function
  is : all ≡ earlier ++ with_changes f changes ∷ more

-- what further statements do to the last function and behind it
grown : (earlier : List Function) (f : Function) (ss : List (StatementText Term)) → Grown earlier f (fold after_statement (earlier ++ f ∷ []) ss)
grown earlier f [] = record {
  changes = [];
  more = [];
  is = ap (λ cs. earlier ++ (record f { changes = cs }) ∷ []) (sym (append-nil f.changes));
}
grown earlier f (function s ∷ ss) =
    let g = grown (earlier ++ f ∷ []) (function_said s) ss in
    record {
      changes = [];
      more = with_changes (function_said s) g.changes ∷ g.more;
      is = g.is ∙ append_assoc earlier (f ∷ []) (with_changes (function_said s) g.changes ∷ g.more)
          ∙ ap (λ cs. earlier ++ (record f { changes = cs }) ∷ with_changes (function_said s) g.changes ∷ g.more) (sym (append-nil f.changes));
    }
grown earlier f (update s ∷ ss) =
    let next = with_changes f (change_said s ∷ []) in
    let g = grown earlier next ss in
    record {
      changes = change_said s ∷ g.changes;
      more = g.more;
      is = ap (λ fs. fold after_statement fs ss) (with_update-last earlier f (change_said s)) ∙ g.is
          ∙ ap (λ cs. earlier ++ (record f { changes = cs }) ∷ g.more) (append_assoc f.changes (change_said s ∷ []) g.changes);
    }

-- a list around what stands in it
split : {A : Type 0} (xs : List A) (k : ℕ) (x : A) → slice_get xs k ≡ Some x → (rest : List A) × (xs ≡ take k xs ++ x ∷ rest)
split [] k x h = cc
split (y ∷ ys) zero x h = (ys, ap (λ o. elim o [ Some z ↦ z ∷ ys | None ↦ y ∷ ys ]) h)
split (y ∷ ys) (suc k) x h = let s = split ys k x h in (s.0, ap (λ l. y ∷ l) s.1)

stands_behind : {A : Type 0} (xs : List A) (x : A) (ys : List A) → slice_get (xs ++ x ∷ ys) (length xs) ≡ Some x
stands_behind [] x ys = refl
stands_behind (z ∷ xs) x ys = stands_behind xs x ys

-- updates do not count for what can be called
calls_apart : (a : Algorithm) (fs : List Function) (f : Function) (cs : List Change) (x : List ℕ) → callable a (fs ++ (record f { changes = cs }) ∷ []) x ≡ callable a (fs ++ f ∷ []) x
calls_apart a [] f cs x = refl
calls_apart a (g ∷ gs) f cs x = ap (pick g x) (calls_apart a gs f cs x)

last_some : (fs : List Function) (x : List ℕ) → IsLast fs x → 1 ≤ length fs
last_some [] x h = absurd h
last_some (f ∷ fs) x h = omega arith

last_named : (fs : List Function) (f : Function) (x : List ℕ) → IsLast (fs ++ f ∷ []) x → f.name ≡ x
last_named [] f x h = h
last_named (g ∷ []) f x h = h
last_named (g ∷ k ∷ fs) f x h = last_named (k ∷ fs) f x h

-- ---- statements of a file that says an algorithm

module _ (file : FileText Term) (ok : IsAlgorithm (says file)) where
  abbrev own_input : Algorithm
  own_input = input_said file.input

  abbrev all : List Function
  all = functions_said file.statements

  abbrev declared : List (List ℕ)
  declared = names_declared file

  -- over the input alone the same can be called
  expression : (vs : List (List ℕ)) (fs : List Function) (t : Ty) (e : Term) → IsExpression vs (callable (says file) fs) t e → IsExpression vs (callable own_input fs) t e
  expression vs fs t e = subst (λ (c : List ℕ → Option (Ty × ℕ)). IsExpression vs c t e) (sym (calls own_input file.name all file.output.name file.output.extents fs))

  -- what is the input's name or one of the first functions' is declared
  among_declared : (fs : List Function) (rest : List (List ℕ)) → function_names all ≡ function_names fs ++ rest → (x : List ℕ) → is_among (own_input.input ∷ function_names fs) x ≡ true → is_among declared x ≡ true
  among_declared fs rest is x h =
      let path : declared ≡ own_input.input ∷ (function_names fs ++ rest) = ap (λ l. file.input.name ∷ l) (sym (names_after [] file.statements) ∙ is) in
      subst (λ (l : List (List ℕ)). is_among l x ≡ true) (sym path) (among_longer (own_input.input ∷ function_names fs) rest x h)

  module _ (vs : List (List ℕ)) (fs : List Function) (t : Ty) (e : Term) (x : IsExpression vs (callable own_input fs) t e) where
    uses : (rest : List (List ℕ)) → function_names all ≡ function_names fs ++ rest → UsesNames vs declared e
    uses rest is = record {
      named = x.named;
      called = each_call-weaker (λ name at. IsSome (callable own_input fs name)) (λ name at. IsTrue (is_among declared name))
          (λ name at h. among_declared fs rest is name (callable_among own_input fs name h)) e x.called;
    }

    known : CallsKnown (callable own_input fs) e
    known = x.called

    counted : CallsCounted (callable own_input fs) e
    counted = each_call-weaker (λ name at. TakesCall (callable own_input fs name) (index_count at)) (λ name at. IsTrue (takes_count (callable own_input fs) name at))
        (λ name at h. takes_it (callable own_input fs name) (index_count at) h) e x.indexed

  module _ (before : List Function) (own : Function) (more : List Function) (is : all ≡ before ++ own ∷ more) where
    is_function : IsFunction (says file) before own
    is_function =
        let stands : slice_get all (length before) ≡ Some own = ap (λ fs. slice_get fs (length before)) is ∙ stands_behind before own more in
        let front : take (length before) all ≡ before = ap (λ fs. take (length before) fs) is ∙ take-append_seam before (own ∷ more) in
        subst (λ fs. IsFunction (says file) fs own) front (ok.functions (length before) own stands)

    names_are : function_names all ≡ function_names before ++ own.name ∷ function_names more
    names_are = ap function_names is ∙ map-append (λ (f : Function). f.name) before (own ∷ more)

    is_new : is_among (own_input.input ∷ function_names before) own.name ≡ false
    is_new = absent (own_input.input ∷ function_names before) own.name (function_names more) (subst (λ (l : List (List ℕ)). AreDistinct (own_input.input ∷ l)) names_are ok.names)

    has_room : length before < 64
    has_room =
        let n : length all ≡ length before + length (own ∷ more) = ap length is ∙ length-append before (own ∷ more) in
        let few : length all ≤ 64 = ok.few in
        omega arith

  -- ---- a function

  module _ (before : List Function) (s : FunctionText Term) (cs : List Change) (more : List Function) (is : all ≡ before ++ with_changes (function_said s) cs ∷ more) where
    own_function : IsFunction (says file) before (with_changes (function_said s) cs)
    own_function = is_function before (with_changes (function_said s) cs) more is

    own_value : IsExpression s.variables (callable own_input before) s.ty s.value
    own_value = expression s.variables before s.ty s.value own_function.pure

    function_keeps_all : (code : Code) → KeepsFunction own_input declared before code s
    function_keeps_all Name = record {
      new = is_new before (with_changes (function_said s) cs) more is;
      distinct = own_function.names;
      value = uses s.variables before s.ty s.value own_value (s.name ∷ function_names more) (names_are before (with_changes (function_said s) cs) more is);
    }
    function_keeps_all LaterCall = known s.variables before s.ty s.value own_value
    function_keeps_all IndexCount = counted s.variables before s.ty s.value own_value
    function_keeps_all TypesDiffer = own_value.typed
    function_keeps_all Limit = record { room = has_room before (with_changes (function_said s) cs) more is; some = own_function.some; few = own_function.few }
    function_keeps_all BadToken = tt
    function_keeps_all BadForm = tt
    function_keeps_all TooLarge = tt
    function_keeps_all MovedVariable = tt
    function_keeps_all NoDomain = tt
    function_keeps_all SampleType = tt

  -- ---- an update

  module _ (before : List Function) (f : Function) (s : UpdateText Term) (cs : List Change) (more : List Function) (is : all ≡ before ++ with_changes (with_changes f (change_said s ∷ [])) cs ∷ more) where
    abbrev after_all : Function
    after_all = with_changes (with_changes f (change_said s ∷ [])) cs

    updated_function : IsFunction (says file) before after_all
    updated_function = is_function before after_all more is

    own_update : IsUpdate (says file) before after_all (change_said s)
    own_update =
        let P : Change → Type 0 = IsUpdate (says file) before after_all in
        All-head P (change_said s) [] (All-right P f.changes (change_said s ∷ []) (All-left P (f.changes ++ change_said s ∷ []) cs updated_function.updates))

    own_names : names_in after_all (change_said s) ≡ names_for f s
    own_names = ap (λ names. f.variables ++ names) (names-said s.domains)

    own_left : (k : ℕ) (d : Term) → k < length s.at → IsExpression (names_for f s) (callable own_input before) I32 (get_or s.at k d)
    own_left k d lt =
        expression (names_for f s) before I32 (get_or s.at k d)
        (subst (λ (names : List (List ℕ)). IsExpression names (callable (says file) before) I32 (get_or s.at k d)) own_names (own_update.left k d lt))

    own_right : IsExpression (names_for f s) (callable own_input (before ++ f ∷ [])) f.ty s.value
    own_right =
        let same : callable (says file) (before ++ after_all ∷ []) ≡ callable (says file) (before ++ f ∷ []) = λ i x. calls_apart (says file) before f after_all.changes x i in
        expression (names_for f s) (before ++ f ∷ []) f.ty s.value
        (subst (λ (c : List ℕ → Option (Ty × ℕ)). IsExpression (names_for f s) c f.ty s.value) same
        (subst (λ (names : List (List ℕ)). IsExpression names (callable (says file) (before ++ after_all ∷ [])) f.ty s.value) own_names own_update.right))

    -- what could be called before is not the function
    is_other : (x : List ℕ) → IsSome (callable own_input before x) → same_name f.name x ≡ false
    is_other x h = by (same_name f.name x) refl
      where
        by : (b : Bool) → same_name f.name x ≡ b → same_name f.name x ≡ false
        by false e = e
        by true e = absurd (false≢true (sym (is_new before after_all more is) ∙ ap (is_among (own_input.input ∷ function_names before)) (same_name_is f.name x e) ∙ callable_among own_input before x h))

    called_alike : (x : List ℕ) → IsSome (callable own_input before x) → callable own_input (before ++ f ∷ []) x ≡ callable own_input before x
    called_alike x h = callable_more own_input before f x (is_other x h)

    names_after_it : function_names all ≡ function_names (before ++ f ∷ []) ++ function_names more
    names_after_it =
        names_are before after_all more is ∙ sym (append_assoc (function_names before) (f.name ∷ []) (function_names more))
        ∙ ap (λ l. l ++ function_names more) (sym (map-append (λ (g : Function). g.name) before (f ∷ [])))

    update_keeps_all : f.name ≡ s.name → (code : Code) → KeepsUpdate own_input declared before f code s
    update_keeps_all named Name = record {
      named = named;
      distinct = subst AreDistinct own_names own_update.names;
      left = λ k d lt. uses (names_for f s) before I32 (get_or s.at k d) (own_left k d lt) (f.name ∷ function_names more) (names_are before after_all more is);
      value = uses (names_for f s) (before ++ f ∷ []) f.ty s.value own_right (function_names more) names_after_it;
    }
    update_keeps_all named LaterCall = record {
      left = λ k d lt.
          each_call-weaker (λ x at. IsSome (callable own_input before x)) (λ x at. IsTrue (is_known (callable own_input (before ++ f ∷ [])) x at))
          (λ x at h. ap is_some (called_alike x h) ∙ h) (get_or s.at k d) (own_left k d lt).called;
      value = known (names_for f s) (before ++ f ∷ []) f.ty s.value own_right;
    }
    update_keeps_all named IndexCount = record {
      places = own_update.places;
      left = λ k d lt.
          each_call-weaker (λ x at. TakesCall (callable own_input before x) (index_count at)) (λ x at. IsTrue (takes_count (callable own_input (before ++ f ∷ [])) x at))
          (λ x at h. ap (λ o. takes o (index_count at)) (called_alike x (some_taken (callable own_input before x) (index_count at) h)) ∙ takes_it (callable own_input before x) (index_count at) h)
          (get_or s.at k d) (own_left k d lt).indexed;
      value = counted (names_for f s) (before ++ f ∷ []) f.ty s.value own_right;
    }
    update_keeps_all named MovedVariable = record {
      others = λ k d lt.
          each_call-weaker (λ x at. IsSome (callable own_input before x)) (λ x at. IsTrue (not (same_name f.name x)))
          (λ x at h. ap not (is_other x h)) (get_or s.at k d) (own_left k d lt).called;
      kept = own_update.kept;
    }
    update_keeps_all named NoDomain =
        let n : length (map range_said s.domains) ≡ length s.domains = length-map s.domains range_said in
        let some : 1 ≤ length (map range_said s.domains) = own_update.domain.some in
        omega arith
    update_keeps_all named TypesDiffer = record { left = λ k d lt. (own_left k d lt).typed; value = own_right.typed }
    update_keeps_all named Limit =
        let n : length (map range_said s.domains) ≡ length s.domains = length-map s.domains range_said in
        let few : length (map range_said s.domains) ≤ 3 = own_update.domain.few in
        let one : length (f.changes ++ change_said s ∷ []) ≡ length f.changes + 1 = length-append f.changes (change_said s ∷ []) in
        let whole : length ((f.changes ++ change_said s ∷ []) ++ cs) ≡ length (f.changes ++ change_said s ∷ []) + length cs = length-append (f.changes ++ change_said s ∷ []) cs in
        let most : length ((f.changes ++ change_said s ∷ []) ++ cs) ≤ 4 = updated_function.few_updates in
        record {
          domain = record { few = omega arith; ranges = own_update.domain.ranges; points = own_update.domain.points };
          room = omega arith;
        }
    update_keeps_all named BadToken = tt
    update_keeps_all named BadForm = tt
    update_keeps_all named TooLarge = tt
    update_keeps_all named SampleType = tt

  -- ---- a statement, the input and the output

  -- all functions, from those before a statement
  all_after : (k : ℕ) (s : StatementText Term) (rest : List (StatementText Term)) → file.statements ≡ take k file.statements ++ s ∷ rest
      → all ≡ fold after_statement (after_statement (functions_said (take k file.statements)) s) rest
  all_after k s rest e = ap functions_said e ∙ fold-append after_statement [] (take k file.statements) (s ∷ rest)

  statement_keeps : (k : ℕ) (s : StatementText Term) → slice_get file.statements k ≡ Some s → FollowsFunction (functions_said (take k file.statements)) s
      → (code : Code) → KeepsStatement own_input declared (functions_said (take k file.statements)) code s
  statement_keeps k (function s) h follows code =
      let before = functions_said (take k file.statements) in
      let p = split file.statements k (function s) h in
      let g = grown before (function_said s) p.0 in
      function_keeps_all before s g.changes g.more (all_after k (function s) p.0 p.1 ∙ g.is) code
  statement_keeps k (update s) h follows code = (
    λ e. last_some (functions_said (take k file.statements)) s.name follows,
    λ earlier f e.
        let p = split file.statements k (update s) h in
        let g = grown earlier (with_changes f (change_said s ∷ [])) p.0 in
        let step : with_update (functions_said (take k file.statements)) (change_said s) ≡ earlier ++ with_changes f (change_said s ∷ []) ∷ [] =
        ap (λ fs. with_update fs (change_said s)) e ∙ with_update-last earlier f (change_said s) in
        update_keeps_all earlier f s g.changes g.more (all_after k (update s) p.0 p.1 ∙ ap (λ fs. fold after_statement fs p.0) step ∙ g.is)
        (last_named earlier f s.name (subst (λ fs. IsLast fs s.name) e follows)) code,
  )

  input_keeps : (code : Code) → KeepsInput code file.input
  input_keeps Limit = ok.input_extents
  input_keeps SampleType = ok.input_sampled
  input_keeps _ = tt

named_some : (r : Option Function) (es : List ℕ) → MatchOption r ⊥ (IsOutput es) → IsSome r
named_some None es h = absurd h
named_some (Some f) es h = refl

named_counted : (r : Option Function) (es : List ℕ) → MatchOption r ⊥ (IsOutput es) → MatchOption r (Unit {0}) (λ f. length es ≡ length f.variables)
named_counted None es h = absurd h
named_counted (Some f) es h = h.indexed

named_sampled : (r : Option Function) (es : List ℕ) → MatchOption r ⊥ (IsOutput es) → MatchOption r (Unit {0}) (λ f. IsSampleType f.ty)
named_sampled None es h = absurd h
named_sampled (Some f) es h = h.sampled

output_keeps : (file : FileText Term) → IsAlgorithm (says file) → (code : Code) → KeepsOutput (functions_said file.statements) code file.output
output_keeps file ok Name = named_some (function_named (functions_said file.statements) file.output.name) file.output.extents ok.output
output_keeps file ok IndexCount = named_counted (function_named (functions_said file.statements) file.output.name) file.output.extents ok.output
output_keeps file ok Limit = ok.output_extents
output_keeps file ok SampleType = named_sampled (function_named (functions_said file.statements) file.output.name) file.output.extents ok.output
output_keeps file ok _ = tt

-- an error that breaks none is want of memory
none_broken : (P : Code → Type 0) (e : AlgoError) → ((code : Code) → P code) → Breaks P e → e ≡ Memory
none_broken P Memory keeps h = refl
none_broken P (Refused code place) keeps h = absurd (h (keeps code))

pub well_formed_breaks_nothing : (file : FileText Term) (e : AlgoError) → FileBreaks file e → IsWellFormed file → e ≡ Memory
well_formed_breaks_nothing file e (inl b) ok = none_broken (λ code. KeepsInput code file.input) e (input_keeps file ok.algorithm) b
well_formed_breaks_nothing file e (inr (inl b)) ok =
    none_broken (λ code. KeepsStatement (input_said file.input) (names_declared file) (functions_said (take b.place file.statements)) code b.statement) e
    (statement_keeps file ok.algorithm b.place b.statement b.stands (ok.updates b.place b.statement b.stands)) b.broken
well_formed_breaks_nothing file e (inr (inr b)) ok = none_broken (λ code. KeepsOutput (functions_said file.statements) code file.output) e (output_keeps file ok.algorithm) b

-- ---- limits of expressions

small_term : (e : Term) → IsSmall e → IsSmallTerm e
small_term e h = record { few = h.nodes; shallow = h.levels }

by_places : {A : Type 0} (P : A → Type 0) (xs : List A) → ((k : ℕ) (x : A) → slice_get xs k ≡ Some x → P x) → AllByRecursion P xs
by_places P [] h = tt
by_places P (x ∷ xs) h = (h zero x refl, by_places P xs (λ k y e. h (suc k) y e))

by_numbers : {A : Type 0} (P Q : A → Type 0) → ((x : A) → P x → Q x) → (xs : List A) → All P xs → AllByRecursion Q xs
by_numbers P Q f [] h = tt
by_numbers P Q f (x ∷ xs) h = (f x (All-head P x xs h), by_numbers P Q f xs (All-tail P x xs h))

-- functions end in one, where there is one
last_of : (fs : List Function) → 1 ≤ length fs → (earlier : List Function) × (f : Function) × (fs ≡ earlier ++ f ∷ [])
last_of [] h = absurd (omega (arith, h))
last_of (f ∷ []) h = ([], f, refl)
last_of (f ∷ g ∷ fs) h = let l = last_of (g ∷ fs) (omega arith) in (f ∷ l.0, l.1, ap (λ l. f ∷ l) l.2)

module _ (file : FileText Term) (ok : IsWellFormed file) where
  is_small : (k : ℕ) (s : StatementText Term) → slice_get file.statements k ≡ Some s → IsSmallStatement s
  is_small k (function s) h =
      let before = functions_said (take k file.statements) in
      let p = split file.statements k (function s) h in
      let g = grown before (function_said s) p.0 in
      small_term s.value (own_value file ok.algorithm before s g.changes g.more (all_after file ok.algorithm k (function s) p.0 p.1 ∙ g.is)).small
  is_small k (update s) h =
      let before = functions_said (take k file.statements) in
      let l = last_of before (last_some before s.name (ok.updates k (update s) h)) in
      let p = split file.statements k (update s) h in
      let g = grown l.0 (with_changes l.1 (change_said s ∷ [])) p.0 in
      let step : with_update before (change_said s) ≡ l.0 ++ with_changes l.1 (change_said s ∷ []) ∷ [] = ap (λ fs. with_update fs (change_said s)) l.2 ∙ with_update-last l.0 l.1 (change_said s) in
      let is = all_after file ok.algorithm k (update s) p.0 p.1 ∙ ap (λ fs. fold after_statement fs p.0) step ∙ g.is in (
        by_numbers (IsExpression (names_for l.1 s) (callable (input_said file.input) l.0) I32) IsSmallTerm (λ e x. small_term e x.small) s.at
            (own_left file ok.algorithm l.0 l.1 s g.changes g.more is),
        small_term s.value (own_right file ok.algorithm l.0 l.1 s g.changes g.more is).small,
      )

  -- the expressions of a well-formed file are within their limits
  pub well_formed_is_small : IsSmallFile file
  well_formed_is_small = by_places IsSmallStatement file.statements is_small
