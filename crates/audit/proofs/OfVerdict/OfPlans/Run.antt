-- What the histogram's piece gives, by its soundness.
use Rattle.std.proofs.Common.{◌≡◌, ℕ, zero, suc, Bool, true, false, List, [], ◌∷◌, ◌++◌, map, Option, Some, None, refl, sym, ap, ◌∙◌, subst}
use Rattle.std.specs.Prelude.{ℤ, pos, nat_lt, codes, slice_get, if◌then◌else◌, flat_map, int_le}
use Rattle.numeric.specs.declared.ty.Ty.TheVariants.{U8, U16}
use Rattle.tree.specs.declared.value.Value.{Value}
use Rattle.tree.specs.Term.{Term}
use Rattle.tree.specs.Meaning.{typed, value_of}
use Rattle.meaning.specs.Image.Raster.{sample}
use Rattle.meaning.specs.Algorithm.{Algorithm, Function, Change}
use Rattle.meaning.specs.Names.{same_name}
use Rattle.meaning.specs.Value.{calls_of}
use Rattle.plan.specs.Claimed.{claim_of}
use Rattle.plan.specs.Plan.{Seq, block}
use Rattle.plan.specs.Symbols.{bind, largest, turns}
use Rattle.plan.specs.Certificate.Certificate.{Claim}
use Rattle.plan.specs.Semantics.Actions.{Action, Allot, Take, Put, Change as Update, Give, actions}
use Rattle.plan.specs.Semantics.Run.{Around, Source, Input, ByClaim, Unknown, claim_source, source_of}
use Rattle.plan.specs.Semantics.Setting.{buffer_in, around_of}
use Rattle.plan.specs.Semantics.Worked.{constants, loop, no_cells}
use Rattle.soundness.specs.Origins.{Given}
use Rattle.soundness.specs.Given.{claim_or_none}
use Rattle.soundness.specs.Right.{Suits, AreRight, PrivateRunsAreRight, right_outcome}
use Rattle.soundness.specs.Stored.{AreDefinitions, AreFetchedRight, KeepsValues, IsOfAlgorithm, DefinitionsAreRight, GivenIsOfAlgorithm, calls_within}
use Rattle.soundness.specs.Worked.{hist_algorithm, hist_store}
use Rattle.soundness.proofs.Refines.{name_true}
use Rattle.audit.specs.Verdict.Plans.Counts.{HistIsSound, HistRunsRight, all_rows, counts_body, counts_plan, counts_certificate}
use Rattle.audit.proofs.OfVerdict.OfPlans.Parts.{s, room_line, store, fill, given_at, change, counting}

-- ---- what is around the piece

same_buffer : (o : Option Claim) → buffer_in o ≡ (claim_or_none o).buffer
same_buffer None = refl
same_buffer (Some c) = refl

no_input : (count : ℕ) (o : Option ℕ) → claim_source count o ≡ Input → ⊥
no_input count None e = cc e
no_input count (Some c) e = of (nat_lt c count) e
  where
    of : (v : Bool) → ◌≡◌ {A = Source} (if v then ByClaim c else Unknown) Input → ⊥
    of true k = cc k
    of false k = cc k

-- a name that means the input is the input's
input_named : (input : List ℕ) (count : ℕ) (name : List ℕ) → source_of input count name ≡ Input → name ≡ input
input_named input count name e = of (same_name name input) refl e
  where
    of : (v : Bool) → same_name name input ≡ v → ◌≡◌ {A = Source} (if v then Input else claim_source count (claim_of name)) Input → name ≡ input
    of true h k = name_true name input h
    of false h k = absurd (no_input count (claim_of name) k)

-- ---- actions that only put and change

abbrev Works : List Action → Type 0
Works [] = Unit {0}
Works (Allot b rooms ∷ later) = Works later
Works (Take b f p ∷ later) = ⊥
Works (Put b f names p e ∷ later) = Works later
Works (Update b f k names at over e ∷ later) = Works later
Works (Give c p ∷ later) = ⊥

works_append : (xs ys : List Action) → Works xs → Works ys → Works (xs ++ ys)
works_append [] ys h k = k
works_append (Allot b rooms ∷ later) ys h k = works_append later ys h k
works_append (Take b f p ∷ later) ys h k = absurd h
works_append (Put b f names p e ∷ later) ys h k = works_append later ys h k
works_append (Update b f j names at over e ∷ later) ys h k = works_append later ys h k
works_append (Give c p ∷ later) ys h k = absurd h

works_turns : (g : ℤ → List Action) → ((z : ℤ) → Works (g z)) → (zs : List ℤ) → Works (flat_map g zs)
works_turns g h [] = tt
works_turns g h (z ∷ zs) = works_append (g z) (flat_map g zs) (h z) (works_turns g h zs)

-- they give nothing
works_give : (given : Given) (xs ys : List Action) → Works xs → right_outcome given (xs ++ ys) ≡ right_outcome given ys
works_give given [] ys h = refl
works_give given (Allot b rooms ∷ later) ys h = works_give given later ys h
works_give given (Take b f p ∷ later) ys h = absurd h
works_give given (Put b f names p e ∷ later) ys h = works_give given later ys h
works_give given (Update b f k names at over e ∷ later) ys h = works_give given later ys h
works_give given (Give c p ∷ later) ys h = absurd h

-- and fetch nothing, whatever is given after them
fetch_none : (around : Around) (given : Given) (xs : List Action) (c : ℕ) (ps : List (List ℤ)) → Works xs → AreFetchedRight around given (xs ++ map (Give c) ps)
fetch_none around given [] c [] h = tt
fetch_none around given [] c (p ∷ ps) h = (tt, fetch_none around given [] c ps tt)
fetch_none around given (Allot b rooms ∷ later) c ps h = (tt, fetch_none around given later c ps h)
fetch_none around given (Take b f p ∷ later) c ps h = absurd h
fetch_none around given (Put b f names p e ∷ later) c ps h = (tt, fetch_none around given later c ps h)
fetch_none around given (Update b f k names at over e ∷ later) c ps h = (tt, fetch_none around given later c ps h)
fetch_none around given (Give d p ∷ later) c ps h = absurd h

module _ (a : Algorithm) (put_in : Term → Term) (given : Given) where
  defined_append : (xs ys : List Action) → AreDefinitions a put_in given xs → AreDefinitions a put_in given ys → AreDefinitions a put_in given (xs ++ ys)
  defined_append [] ys h k = k
  defined_append (x ∷ later) ys h k = (h.0, defined_append later ys h.1 k)

  defined_turns : (g : ℤ → List Action) → ((z : ℤ) → AreDefinitions a put_in given (g z)) → (zs : List ℤ) → AreDefinitions a put_in given (flat_map g zs)
  defined_turns g h [] = tt
  defined_turns g h (z ∷ zs) = defined_append (g z) (flat_map g zs) (h z) (defined_turns g h zs)

  defined_gives : (c : ℕ) (ps : List (List ℤ)) → AreDefinitions a put_in given (map (Give c) ps)
  defined_gives c [] = tt
  defined_gives c (p ∷ ps) = (tt, defined_gives c ps)

append_assoc : {A : Type 0} (xs ys zs : List A) → (xs ++ ys) ++ zs ≡ xs ++ (ys ++ zs)
append_assoc [] ys zs = refl
append_assoc (x ∷ xs) ys zs = ap (λ ws. x ∷ ws) (append_assoc xs ys zs)

append_nil : {A : Type 0} (xs : List A) → xs ++ [] ≡ xs
append_nil [] = refl
append_nil (x ∷ xs) = ap (λ ws. x ∷ ws) (append_nil xs)

abbrev itself : Term → Term
itself e = e

module _ (samples : List ℕ) (last rows : ℕ) where
  abbrev algorithm : Algorithm
  algorithm = hist_algorithm last rows

  abbrev given : Given
  given = given_at samples last rows last (all_rows rows)

  abbrev around : Around
  around = around_of (counts_plan last rows (all_rows rows)) (counts_certificate last last) samples no_cells

  suits : Suits around given
  suits = record {
    sources = λ name. refl;
    buffers = λ c. same_buffer (slice_get (counts_certificate last last).claims c);
    samples = λ name p e h.
        let is : name ≡ codes "in" = input_named (codes "in") 2 name e in
        ap (λ (v : Bool). if v then Some (typed U8 (sample (3 ∷ suc rows ∷ []) samples p)) else None) h
        ∙ ap (λ (n : List ℕ). Some (given.calls n p)) (sym is);
  }

  -- ---- the one function is what the algorithm has under a name

  the_function : (v : Bool) (f : Function) → ◌≡◌ {A = Option Function} (if v then Some (counting rows) else None) (Some f) → f ≡ counting rows
  the_function true f e = let same : counting rows ≡ f = cc in sym same
  the_function false f e = absurd (cc e)

  the_change : (i : ℕ) (u : Change) → slice_get (change rows ∷ []) i ≡ Some u → u ≡ change rows
  the_change zero u e = let same : change rows ≡ u = cc in sym same
  the_change (suc i) u e = absurd (cc e)

  right_typed : (f : Function) (i : ℕ) (u : Change) (values : List ℤ → ℤ) (variables : List ℕ → ℤ) → f ≡ counting rows → slice_get f.changes i ≡ Some u →
      (value_of variables (calls_within algorithm samples f values) u.value).ty ≡ f.ty
  right_typed f i u values variables e h =
      let at : slice_get (change rows ∷ []) i ≡ Some u = subst (λ (g : Function). slice_get g.changes i ≡ Some u) e h in
      subst (λ (g : Function). (value_of variables (calls_within algorithm samples g values) u.value).ty ≡ g.ty) (sym e)
      (subst (λ (w : Change). (value_of variables (calls_within algorithm samples (counting rows) values) w.value).ty ≡ U16) (sym (the_change i u at)) refl)

  keeps : KeepsValues algorithm samples itself
  keeps = record {
    value = λ variables e. refl;
    of_type = λ name f variables named.
        subst (λ (g : Function). (value_of variables (calls_of algorithm samples) g.value).ty ≡ g.ty) (sym (the_function (same_name (codes "h") name) f named)) refl;
    right_value = λ name f i u values variables named at. refl;
    right_type = λ name f i u values variables named at. right_typed f i u values variables (the_function (same_name (codes "h") name) f named) at;
    left_value = λ name f i u values variables named at k d l. refl;
  }

  -- ---- what is done

  abbrev filled : List Action
  filled = actions given.outline.setting (fill last) s

  abbrev counted : List Action
  counted = actions given.outline.setting (all_rows rows) s

  abbrev own : List (List ℤ)
  own = given.outline.setting.own s

  abbrev room : List Action
  room = actions given.outline.setting (room_line last) s

  abbrev fill_turn : ℤ → List Action
  fill_turn z = actions given.outline.setting (Seq (block (store ∷ []))) (bind s 1 z (int_le z (largest s (constants (pos 0) (pos last)).lower)))

  abbrev count_turn : ℤ → List Action
  count_turn z = actions given.outline.setting (Seq (block (loop 3 (constants (pos 0) (pos 2)) (hist_store ∷ []) ∷ []))) (bind s 2 z (int_le z (largest s (constants (pos 0) (pos rows)).lower)))

  filled_works : Works filled
  filled_works = works_turns fill_turn (λ z. tt) (turns s (constants (pos 0) (pos last)))

  counted_works : Works counted
  counted_works = works_turns count_turn (λ z. tt) (turns s (constants (pos 0) (pos rows)))

  filled_defined : AreDefinitions algorithm itself given filled
  filled_defined = defined_turns algorithm itself given fill_turn (λ z. ((counting rows, refl, refl, refl), tt)) (turns s (constants (pos 0) (pos last)))

  counted_defined : AreDefinitions algorithm itself given counted
  counted_defined =
      defined_turns algorithm itself given count_turn (λ z. (
        (counting rows, 0, change rows, refl, refl, refl, refl, (refl, refl, tt), refl),
        (
          (counting rows, 0, change rows, refl, refl, refl, refl, (refl, refl, tt), refl),
          ((counting rows, 0, change rows, refl, refl, refl, refl, (refl, refl, tt), refl), tt),
        ),
      )) (turns s (constants (pos 0) (pos rows)))

  -- all that is done: what works, and then what gives
  abbrev done : List Action
  done = room ++ (filled ++ counted)

  done_works : Works done
  done_works = works_append room (filled ++ counted) tt (works_append filled counted filled_works counted_works)

  abbrev todo : List Action
  todo = actions given.outline.setting (counts_body last (all_rows rows)) s

  parted : todo ≡ done ++ map (Give 1) own
  parted =
      ap (λ (ys : List Action). room ++ (filled ++ (counted ++ ys))) (append_nil (map (Give 1) own))
      ∙ ap (λ ys. room ++ ys) (sym (append_assoc filled counted (map (Give 1) own)))

  right : DefinitionsAreRight → IsOfAlgorithm algorithm samples given → AreRight around given todo
  right law of =
      law algorithm samples itself around given todo of keeps
      (subst (AreFetchedRight around given) (sym parted) (fetch_none around given done 1 own done_works))
      (subst (AreDefinitions algorithm itself given) (sym parted)
      (defined_append algorithm itself given done (map (Give 1) own)
      (tt, defined_append algorithm itself given filled counted filled_defined counted_defined)
      (defined_gives algorithm itself given 1 own)))

  -- each own cell gets what a call answers
  given_own : IsOfAlgorithm algorithm samples given → (ps : List (List ℤ)) → right_outcome given (map (Give 1) ps) ≡ map (calls_of algorithm samples (codes "h")) ps
  given_own of [] = refl
  given_own of (p ∷ ps) =
      ap (λ (v : Value). v ∷ right_outcome given (map (Give 1) ps)) (of.whole (codes "h") p)
      ∙ ap (λ (vs : List Value). calls_of algorithm samples (codes "h") p ∷ vs) (given_own of ps)

pub hist_given : HistIsSound → PrivateRunsAreRight → GivenIsOfAlgorithm → DefinitionsAreRight → HistRunsRight
hist_given sound runs formed law samples last rows is fits =
    let of : IsOfAlgorithm (algorithm samples last rows) samples (given samples last rows) =
    formed (algorithm samples last rows) samples (given samples last rows).outline is (λ name e. input_named (codes "in") 2 name e) in
    runs (around samples last rows) (given samples last rows) (counts_body last (all_rows rows)) 5 s (suits samples last rows) (right samples last rows law of) (sound samples last rows fits)
    ∙ ap Some (ap (right_outcome (given samples last rows)) (parted samples last rows)
    ∙ works_give (given samples last rows) (done samples last rows) (map (Give 1) (own samples last rows)) (done_works samples last rows)
    ∙ given_own samples last rows of (own samples last rows))
