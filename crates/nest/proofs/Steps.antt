-- Lines that were read begin a plan's text, and a line that is refused goes on with none.
use Rattle.std.proofs.Common.{◌≡◌, ℕ, ◌+◌, ◌≤◌, Bool, true, false, ◌&&◌, List, [], ◌∷◌, ◌++◌, length, map, Option, Some, None, refl, sym, ap, ◌∙◌, append_assoc, arith}
use Rattle.std.specs.Prelude.{if◌then◌else◌, option_map, option_and_then, nat_le}
use Rattle.std.specs.List.{list_all}
use Rattle.std.specs.Str.{bytes_eq}
use Rattle.std.proofs.lemmas.Slice.Eq.{bytes_eq-Decides}
use Rattle.std.proofs.lemmas.Bool.Decides.{nat_tests}
use Rattle.std.proofs.lemmas.List.{append-nil, map-append}
use Rattle.numeric.specs.declared.ty.Ty.TheVariants as ty
use Rattle.plan.specs.Plan.{Declaration, Group, Plan}
use Rattle.spelling.specs.Lines.Lines.{is_line, lines_text, is_within, are_within}
use Rattle.spelling.specs.Lines.Texts.{IsTextOf, Begins}
use Rattle.spelling.proofs.Texts.{IsLawful, within_more, within_last}
use Rattle.spelling.specs.Terms.Laws.{TermIsReadAgain, TermIsPlain}
use Rattle.nest.specs.Blocks.Line.{Line, PlanLine, InputLine, OutputLine, GroupLine, ForLine, LetLine, FirstLine, ElseLine, GuardLine, EndLine, AllocLine, FetchLine, StoreLine, PublishLine}
use Rattle.nest.specs.Blocks.Flat.{groups_lines, plan_lines}
use Rattle.nest.specs.Blocks.Shape.{has_block, is_canonical}
use Rattle.nest.specs.Blocks.Form.{is_in_form}
use Rattle.nest.specs.Blocks.Stages.{Stage, outside, may_stand, stage_after}
use Rattle.nest.specs.Blocks.Numbers.{Count, start, has_room, is_next, after, are_numbered}
use Rattle.nest.specs.Blocks.Nesting.{Draft, Nothing, Named, Fed, Headed, Blocks, next, drafted, finished}
use Rattle.nest.proofs.Written.{drafted_lines, finished_lines}
use Rattle.nest.proofs.BlocksAgain.{plan_again}
use Rattle.nest.proofs.Completed.{is_closer, is_fine_draft, drafted_fine, finished_fine, completes}
use Rattle.nest.specs.Spelling.{line_text}
use Rattle.nest.specs.Fitting.{fits_line}
use Rattle.nest.specs.Reading.{line_from}
use Rattle.nest.specs.Notation.{fits_plan, counted, plan_notation}
use Rattle.nest.specs.Reader.{State, initial, is_spelled, is_numbered, is_lawful, with_line, next_state, finished_state}
use Rattle.nest.proofs.InForm.{placed, plan_placed, stage_behind, stage_join, plan_depth, published, groups_published, is_steady, steady_placed}
use Rattle.nest.proofs.Again.{line_again}
use Rattle.nest.proofs.Feeds.{line_feedless}

both : (a b : Bool) → (a && b) ≡ true → (a ≡ true) × (b ≡ true)
both true b h = (refl, h)
both false b h = absurd cc

some_is : {X : Type 0} (x y : X) → Some x ≡ Some y → x ≡ y
some_is x y e = cc

-- ---- one line more

drafted_step : (d : Draft) (l : Line) (ls : List Line) (made : Option Draft) (after : Draft) → next l d ≡ made → option_and_then (λ e. drafted e ls) made ≡ Some after
    → (e : Draft) × (next l d ≡ Some e) × (drafted e ls ≡ Some after)
drafted_step d l ls None after made e = absurd cc
drafted_step d l ls (Some x) after made e = (x, made, e)

drafted_join : (d : Draft) (ls more : List Line) (e after : Draft) → drafted d ls ≡ Some e → drafted e more ≡ Some after → drafted d (ls ++ more) ≡ Some after
drafted_join d [] more e after h step = ap (λ x. drafted x more) (some_is d e h) ∙ step
drafted_join d (x ∷ ls) more e after h step =
    let one = drafted_step d x ls (next x d) e refl h in
    rw one.1 (drafted_join one.0 ls more e after one.2 step)

drafted_one : (l : Line) (e after : Draft) → next l e ≡ Some after → drafted e (l ∷ []) ≡ Some after
drafted_one l e after h = rw h refl

-- what is put together of a text's first lines
drafted_split : (d : Draft) (ls : List Line) (l : Line) (more : List Line) (e after : Draft) → drafted d ls ≡ Some e → drafted d (ls ++ l ∷ more) ≡ Some after → (f : Draft) × (next l e ≡ Some f)
drafted_split d [] l more e after h all =
    let one = drafted_step d l more (next l d) after refl all in
    (one.0, ap (next l) (sym (some_is d e h)) ∙ one.1)
drafted_split d (x ∷ ls) l more e after h all =
    let one = drafted_step d x ls (next x d) e refl h in
    let other = drafted_step d x (ls ++ l ∷ more) (next x d) after refl all in
    let same : other.0 ≡ one.0 = some_is other.0 one.0 (sym other.1 ∙ one.1) in
    drafted_split one.0 ls l more e after one.2 (ap (λ w. drafted w (ls ++ l ∷ more)) (sym same) ∙ other.2)

abbrev count_of : Count → List Line → Count
count_of c [] = c
count_of c (l ∷ ls) = count_of (after l c) ls

all_join : {X : Type 0} (f : X → Bool) (xs ys : List X) → list_all f xs ≡ true → list_all f ys ≡ true → list_all f (xs ++ ys) ≡ true
all_join f [] ys h k = k
all_join f (x ∷ xs) ys h k = let p = both (f x) (list_all f xs) h in rw (p.0, all_join f xs ys p.1 k) refl

all_front : {X : Type 0} (f : X → Bool) (xs ys : List X) → list_all f (xs ++ ys) ≡ true → (list_all f xs ≡ true) × (list_all f ys ≡ true)
all_front f [] ys h = (refl, h)
all_front f (x ∷ xs) ys h = let p = both (f x) (list_all f (xs ++ ys)) h in let q = all_front f xs ys p.1 in (rw (p.0, q.0) refl, q.1)

numbered_join : (c : Count) (xs ys : List Line) → are_numbered c xs ≡ true → are_numbered (count_of c xs) ys ≡ true → are_numbered c (xs ++ ys) ≡ true
numbered_join c [] ys h k = k
numbered_join c (x ∷ xs) ys h k = let p = both (has_room x c && is_next x c) (are_numbered (after x c) xs) h in rw (p.0, numbered_join (after x c) xs ys p.1 k) refl

numbered_back : (c : Count) (xs ys : List Line) → are_numbered c (xs ++ ys) ≡ true → are_numbered (count_of c xs) ys ≡ true
numbered_back c [] ys h = h
numbered_back c (x ∷ xs) ys h = numbered_back (after x c) xs ys (both (has_room x c && is_next x c) (are_numbered (after x c) (xs ++ ys)) h).1

count_join : (c : Count) (xs ys : List Line) → count_of c (xs ++ ys) ≡ count_of (count_of c xs) ys
count_join c [] ys = refl
count_join c (x ∷ xs) ys = count_join (after x c) xs ys

-- where the lines end, of which this is counted
stage_of_count : (c : Count) (ls : List Line) → (count_of c ls).stage ≡ stage_behind c.stage ls
stage_of_count c [] = refl
stage_of_count c (l ∷ ls) = stage_of_count (after l c) ls

-- ---- what is read

pub record IsRead (front : List (List ℕ)) (s : State) : Type 0 where
  pub lines : List Line
  pub spelled : front ≡ map line_text lines
  pub made : drafted Nothing lines ≡ Some s.draft
  pub fit : list_all fits_line lines ≡ true
  pub numbered : are_numbered start lines ≡ true
  pub count : s.count ≡ count_of start lines
  pub stand : (more : List Line) → placed outside (lines ++ more) ≡ placed s.count.stage more
  pub within : are_within 1 front ≡ true

pub read_none : IsRead [] initial
read_none = record { lines = []; spelled = refl; made = refl; fit = refl; numbered = refl; count = refl; stand = λ more. refl; within = refl }

-- a line that can stand behind others
record Follows (number : ℕ) (bytes : List ℕ) (s t : State) : Type 0 where
  line : Line
  is : line ≡ line_from bytes
  spelled : line_text line ≡ bytes
  fit : fits_line line ≡ true
  stands : may_stand line s.count.stage ≡ true
  numbered : is_numbered line s.count ≡ true
  within : is_within number bytes ≡ true
  made : next line s.draft ≡ Some t.draft
  count : t.count ≡ after line s.count

with_line_is : (l : Line) (s t : State) (made : Option Draft) → next l s.draft ≡ made → option_map (λ d. let u : State = record { draft = d; count = after l s.count } in u) made ≡ Some t → (next l s.draft ≡ Some t.draft) × (t.count ≡ after l s.count)
with_line_is l s t None made e = absurd cc
with_line_is l s t (Some d) made e = let same = some_is _ t e in (made ∙ ap (λ (u : State). Some u.draft) same, ap (λ (u : State). u.count) (sym same))

follows_by : (b : Bool) (number : ℕ) (bytes : List ℕ) (s t : State) → (is_within number bytes && is_spelled bytes (line_from bytes) && is_lawful (line_from bytes) s.count) ≡ b
    → (if b then with_line (line_from bytes) s else None) ≡ Some t → Follows number bytes s t
follows_by false number bytes s t is e = absurd cc
follows_by true number bytes s t is e =
    let l = line_from bytes in
    let p = both (is_within number bytes && is_spelled bytes l) (is_lawful l s.count) is in
    let lawful = both (may_stand l s.count.stage) (is_numbered l s.count) p.1 in
    let q = both (is_within number bytes) (is_spelled bytes l) p.0 in
    let r = both (fits_line l) (bytes_eq (line_text l) bytes) q.1 in
    let w = with_line_is l s t (next l s.draft) refl e in
    record { line = l; is = refl; spelled = (bytes_eq-Decides (line_text l) bytes).0 r.1; fit = r.0; stands = lawful.0; numbered = lawful.1; within = q.0; made = w.0; count = w.1 }

follows : (number : ℕ) (bytes : List ℕ) (s t : State) → next_state number bytes s ≡ Some t → Follows number bytes s t
follows number bytes s t e = follows_by (is_within number bytes && is_spelled bytes (line_from bytes) && is_lawful (line_from bytes) s.count) number bytes s t refl e

small_by : (number : ℕ) (bytes : List ℕ) → is_within number bytes ≡ true → number ≤ 65536
small_by number bytes h = let p = both (nat_le number 65536) (nat_le (length bytes) 65536) h in grind (arith, nat_tests)

pub follows_within : (number : ℕ) (bytes : List ℕ) (s t : State) → next_state number bytes s ≡ Some t → number ≤ 65536
follows_within number bytes s t e = let f = follows number bytes s t e in small_by number bytes f.within

pub read_more : (front : List (List ℕ)) (bytes : List ℕ) (s t : State) → IsRead front s → next_state (1 + length front) bytes s ≡ Some t → IsRead (front ++ bytes ∷ []) t
read_more front bytes s t r e =
    let f = follows (1 + length front) bytes s t e in
    let numbered : is_numbered f.line (count_of start r.lines) ≡ true = ap (is_numbered f.line) (sym r.count) ∙ f.numbered in
    record {
      lines = r.lines ++ f.line ∷ [];
      spelled = ap (λ w. w ++ bytes ∷ []) r.spelled ∙ ap (λ b. map line_text r.lines ++ b ∷ []) (sym f.spelled) ∙ sym (map-append line_text r.lines (f.line ∷ []));
      made = drafted_join Nothing r.lines (f.line ∷ []) s.draft t.draft r.made (drafted_one f.line s.draft t.draft f.made);
      fit = all_join fits_line r.lines (f.line ∷ []) r.fit (rw f.fit refl);
      numbered = numbered_join start r.lines (f.line ∷ []) r.numbered (rw numbered refl);
      count = f.count ∙ ap (after f.line) r.count ∙ sym (count_join start r.lines (f.line ∷ []));
      stand = λ more.
          ap (placed outside) (append_assoc r.lines (f.line ∷ []) more) ∙ r.stand (f.line ∷ more)
          ∙ ap (λ b. b && placed (stage_after f.line s.count.stage) more) f.stands ∙ ap (λ (c : Count). placed c.stage more) (sym f.count);
      within = within_more 1 front bytes r.within f.within;
    }

-- ---- lines that can follow, to a plan

record Completion (d : Draft) : Type 0 where
  more : List Line
  draft : Draft
  plan : Plan
  fit : list_all fits_line more ≡ true
  numbered : (c : Count) → are_numbered c more ≡ true
  steady : list_all is_steady more ≡ true
  made : drafted d more ≡ Some draft
  whole : finished draft ≡ Some plan

closers_fit : (ls : List Line) → list_all is_closer ls ≡ true → list_all fits_line ls ≡ true
closers_fit [] h = refl
closers_fit (PlanLine name ∷ ls) h = absurd cc
closers_fit (InputLine d ∷ ls) h = absurd cc
closers_fit (OutputLine d ∷ ls) h = absurd cc
closers_fit (GroupLine n f region grid ∷ ls) h = absurd cc
closers_fit (ForLine i x kind ∷ ls) h = absurd cc
closers_fit (LetLine i pick forms ∷ ls) h = absurd cc
closers_fit (FirstLine i ∷ ls) h = absurd cc
closers_fit (ElseLine ∷ ls) h = closers_fit ls h
closers_fit (GuardLine low high ∷ ls) h = absurd cc
closers_fit (EndLine ∷ ls) h = closers_fit ls h
closers_fit (AllocLine n f places ∷ ls) h = absurd cc
closers_fit (FetchLine n g region ∷ ls) h = absurd cc
closers_fit (StoreLine n k at v ∷ ls) h = absurd cc
closers_fit (PublishLine c ∷ ls) h = absurd cc

closers_numbered : (ls : List Line) → list_all is_closer ls ≡ true → (c : Count) → are_numbered c ls ≡ true
closers_numbered [] h c = refl
closers_numbered (PlanLine name ∷ ls) h c = absurd cc
closers_numbered (InputLine d ∷ ls) h c = absurd cc
closers_numbered (OutputLine d ∷ ls) h c = absurd cc
closers_numbered (GroupLine n f region grid ∷ ls) h c = absurd cc
closers_numbered (ForLine i x kind ∷ ls) h c = absurd cc
closers_numbered (LetLine i pick forms ∷ ls) h c = absurd cc
closers_numbered (FirstLine i ∷ ls) h c = absurd cc
closers_numbered (ElseLine ∷ ls) h c = closers_numbered ls h c
closers_numbered (GuardLine low high ∷ ls) h c = absurd cc
closers_numbered (EndLine ∷ ls) h c = closers_numbered ls h (after EndLine c)
closers_numbered (AllocLine n f places ∷ ls) h c = absurd cc
closers_numbered (FetchLine n g region ∷ ls) h c = absurd cc
closers_numbered (StoreLine n k at v ∷ ls) h c = absurd cc
closers_numbered (PublishLine c ∷ ls) h d = absurd cc

closers_steady : (ls : List Line) → list_all is_closer ls ≡ true → list_all is_steady ls ≡ true
closers_steady [] h = refl
closers_steady (PlanLine name ∷ ls) h = absurd cc
closers_steady (InputLine d ∷ ls) h = absurd cc
closers_steady (OutputLine d ∷ ls) h = absurd cc
closers_steady (GroupLine n f region grid ∷ ls) h = absurd cc
closers_steady (ForLine i x kind ∷ ls) h = absurd cc
closers_steady (LetLine i pick forms ∷ ls) h = absurd cc
closers_steady (FirstLine i ∷ ls) h = absurd cc
closers_steady (ElseLine ∷ ls) h = closers_steady ls h
closers_steady (GuardLine low high ∷ ls) h = absurd cc
closers_steady (EndLine ∷ ls) h = closers_steady ls h
closers_steady (AllocLine n f places ∷ ls) h = absurd cc
closers_steady (FetchLine n g region ∷ ls) h = absurd cc
closers_steady (StoreLine n k at v ∷ ls) h = absurd cc
closers_steady (PublishLine c ∷ ls) h = absurd cc

-- a name and a declaration to go on with
abbrev some_name : List ℕ
some_name = 120 ∷ []

abbrev some_declaration : Declaration
some_declaration = record { name = some_name; ty = ty.U8; extents = [] }

abbrev no_blocks : Blocks
no_blocks = record { groups = []; levels = [] }

completion : (d : Draft) → is_fine_draft d ≡ true → Completion d
completion Nothing fine =
    record {
      more = PlanLine some_name ∷ InputLine some_declaration ∷ OutputLine some_declaration ∷ [];
      draft = Headed some_name some_declaration some_declaration no_blocks;
      plan = record { name = some_name; input = some_declaration; output = some_declaration; groups = [] };
      fit = refl;
      numbered = λ c. refl;
      steady = refl;
      made = refl;
      whole = refl;
    }
completion (Named name) fine =
    record {
      more = InputLine some_declaration ∷ OutputLine some_declaration ∷ [];
      draft = Headed name some_declaration some_declaration no_blocks;
      plan = record { name = name; input = some_declaration; output = some_declaration; groups = [] };
      fit = refl;
      numbered = λ c. refl;
      steady = refl;
      made = refl;
      whole = refl;
    }
completion (Fed name input) fine =
    record {
      more = OutputLine some_declaration ∷ [];
      draft = Headed name input some_declaration no_blocks;
      plan = record { name = name; input = input; output = some_declaration; groups = [] };
      fit = refl;
      numbered = λ c. refl;
      steady = refl;
      made = refl;
      whole = refl;
    }
completion (Headed name input output b) fine =
    let c = completes name input output b fine in
    record { more = c.more; draft = c.draft; plan = c.plan; fit = closers_fit c.more c.closers; numbered = closers_numbered c.more c.closers; steady = closers_steady c.more c.closers; made = c.made; whole = c.whole }

fits_all : (p : Plan) → is_canonical p ≡ true → is_in_form p ≡ true → are_numbered start (plan_lines p) ≡ true → list_all fits_line (plan_lines p) ≡ true → fits_plan p ≡ true
fits_all p shape form numbered fit = rw (shape, form, numbered, fit) refl

-- the lines of a draft that is finished are its plan's
plan_of_lines : (ls : List Line) (d : Draft) (p : Plan) → drafted Nothing ls ≡ Some d → finished d ≡ Some p → (plan_lines p ≡ ls) × (is_canonical p ≡ true)
plan_of_lines ls d p made whole = (finished_lines d p whole ∙ drafted_lines Nothing ls d made, finished_fine d p (drafted_fine Nothing ls d refl made) whole)

-- a plan whose lines are some that were read, and lines behind them
record GoesOn (lines : List Line) : Type 0 where
  plan : Plan
  more : List Line
  is : plan_lines plan ≡ lines ++ more
  shape : is_canonical plan ≡ true
  form : is_in_form plan ≡ true
  numbered : are_numbered (count_of start lines) more ≡ true
  fit : list_all fits_line more ≡ true

-- a plan that is whole but for the `publish` of its last group
with_publish : (p : Plan) (gs : List Group) (lines more : List Line) (stage : Stage) → p.groups ≡ gs → is_canonical p ≡ true → plan_lines p ≡ lines ++ more
    → ((rest : List Line) → placed outside (lines ++ rest) ≡ placed stage rest) → list_all is_steady more ≡ true → (stage_behind stage more).published ≡ false → stage_behind stage more ≡ stage_behind outside (plan_lines p)
    → are_numbered (count_of start lines) more ≡ true → list_all fits_line more ≡ true → GoesOn lines
with_publish p [] lines more stage groups shape is stand steady still same numbered fit =
    let none : stage_behind outside (plan_lines p) ≡ outside = ap (λ gs. stage_behind outside (groups_lines 0 gs)) groups in
    absurd (let wrong : true ≡ false = ap (λ (s : Stage). s.published) (sym (same ∙ none)) ∙ still in cc)
with_publish p (g ∷ gs) lines more stage groups shape is stand steady still same numbered fit =
    let own = groups_published 0 g gs (ap (list_all has_block) (sym groups) ∙ shape) in
    let whole : Plan = record { name = p.name; input = p.input; output = p.output; groups = published (g ∷ gs) } in
    let publish = PublishLine 0 ∷ [] in
    let head : List Line → List Line = λ ls. PlanLine p.name ∷ InputLine p.input ∷ OutputLine p.output ∷ ls in
    let last : plan_lines whole ≡ plan_lines p ++ publish = ap head (own.lines ∙ ap (λ hs. groups_lines 0 hs ++ publish) (sym groups)) in
    let lines_are : plan_lines whole ≡ lines ++ (more ++ publish) = last ∙ ap (λ ls. ls ++ publish) is ∙ append_assoc lines more publish in
    let depth : (stage_behind stage more).depth ≡ 0 = ap (λ (s : Stage). s.depth) same ∙ plan_depth p in
    let stands : placed (stage_behind stage more) publish ≡ true = rw (still, depth) refl in
    record {
      plan = whole;
      more = more ++ publish;
      is = lines_are;
      shape = own.blocks;
      form = sym (plan_placed whole own.blocks) ∙ ap (placed outside) lines_are ∙ stand (more ++ publish) ∙ steady_placed more steady stage publish ∙ stands;
      numbered = numbered_join (count_of start lines) more publish numbered refl;
      fit = all_join fits_line more publish fit refl;
    }

goes_on_by : (b : Bool) (p : Plan) (lines more : List Line) (stage : Stage) → (stage_behind stage more).published ≡ b → is_canonical p ≡ true → plan_lines p ≡ lines ++ more
    → ((rest : List Line) → placed outside (lines ++ rest) ≡ placed stage rest) → list_all is_steady more ≡ true → stage_behind stage more ≡ stage_behind outside (plan_lines p)
    → are_numbered (count_of start lines) more ≡ true → list_all fits_line more ≡ true → GoesOn lines
goes_on_by true p lines more stage whole shape is stand steady same numbered fit =
    let stands = steady_placed more steady stage [] in
    record {
      plan = p;
      more = more;
      is = is;
      shape = shape;
      form = sym (plan_placed p shape) ∙ ap (placed outside) (is ∙ ap (λ ls. lines ++ ls) (sym (append-nil more))) ∙ stand (more ++ []) ∙ stands ∙ whole;
      numbered = numbered;
      fit = fit;
    }
goes_on_by false p lines more stage still shape is stand steady same numbered fit = with_publish p p.groups lines more stage refl shape is stand steady still same numbered fit

goes_on : (front : List (List ℕ)) (s : State) (r : IsRead front s) → GoesOn r.lines
goes_on front s r =
    let c = completion s.draft (drafted_fine Nothing r.lines s.draft refl r.made) in
    let whole = plan_of_lines (r.lines ++ c.more) c.draft c.plan (drafted_join Nothing r.lines c.more s.draft c.draft r.made c.made) c.whole in
    let stage : s.count.stage ≡ stage_behind outside r.lines = ap (λ (x : Count). x.stage) r.count ∙ stage_of_count start r.lines in
    let same : stage_behind s.count.stage c.more ≡ stage_behind outside (plan_lines c.plan) =
    ap (λ x. stage_behind x c.more) stage ∙ sym (stage_join outside r.lines c.more) ∙ ap (stage_behind outside) (sym whole.0) in
    goes_on_by (stage_behind s.count.stage c.more).published c.plan r.lines c.more s.count.stage refl whole.1 whole.0 r.stand c.steady same (c.numbered (count_of start r.lines)) c.fit

-- lines that were read begin a plan
pub begins : (front : List (List ℕ)) (s : State) → IsRead front s → Begins plan_notation 1 front
begins front s r =
    let g = goes_on front s r in
    record {
      value = g.plan;
      more = map line_text g.more;
      fit = fits_all g.plan g.shape g.form
          (ap (are_numbered start) g.is ∙ numbered_join start r.lines g.more r.numbered g.numbered)
          (ap (list_all fits_line) g.is ∙ all_join fits_line r.lines g.more r.fit g.fit);
      begun = ap (map line_text) g.is ∙ map-append line_text r.lines g.more ∙ ap (λ w. w ++ map line_text g.more) (sym r.spelled);
      within = r.within;
    }

-- the last group has its `publish`, and the plan is put together
finished_by : (b : Bool) (d : Draft) (p : Plan) → (if b then finished d else None) ≡ Some p → (b ≡ true) × (finished d ≡ Some p)
finished_by true d p e = (refl, e)
finished_by false d p e = absurd cc

published_is : (front : List (List ℕ)) (s : State) (r : IsRead front s) → placed outside r.lines ≡ s.count.stage.published
published_is front s r = ap (placed outside) (sym (append-nil r.lines)) ∙ r.stand []

-- lines that were read and are whole are a plan's
pub is_plan : (front : List (List ℕ)) (s : State) (p : Plan) (text : List ℕ) → IsRead front s → finished_state s ≡ Some p → text ≡ lines_text front → IsTextOf plan_notation 1 text p
is_plan front s p text r e t =
    let own = finished_by s.count.stage.published s.draft p e in
    let whole = plan_of_lines r.lines s.draft p r.made own.1 in
    let form : is_in_form p ≡ true = sym (plan_placed p whole.1) ∙ ap (placed outside) whole.0 ∙ published_is front s r ∙ own.0 in
    let same : map line_text (plan_lines p) ≡ front = ap (map line_text) whole.0 ∙ sym r.spelled in
    record {
      spelled = t ∙ ap lines_text (sym same);
      fit = fits_all p whole.1 form (ap (are_numbered start) whole.0 ∙ r.numbered) (ap (list_all fits_line) whole.0 ∙ r.fit);
      within = ap (are_within 1) same ∙ r.within;
    }

record Fine (p : Plan) : Type 0 where
  shape : is_canonical p ≡ true
  stand : placed outside (plan_lines p) ≡ true
  numbered : are_numbered start (plan_lines p) ≡ true
  fit : list_all fits_line (plan_lines p) ≡ true

fine : (p : Plan) → fits_plan p ≡ true → Fine p
fine p h =
    let q = both (is_canonical p && is_in_form p && are_numbered start (plan_lines p)) (list_all fits_line (plan_lines p)) h in
    let r = both (is_canonical p && is_in_form p) (are_numbered start (plan_lines p)) q.0 in
    let t = both (is_canonical p) (is_in_form p) r.0 in
    record { shape = t.0; stand = plan_placed p t.0 ∙ t.1; numbered = r.1; fit = q.1 }

none_some : {X : Type 0} (o : Option X) (x : X) → o ≡ None → o ≡ Some x → ⊥
none_some o x e f = let h : None ≡ Some x = sym e ∙ f in cc

module _ (term_again : TermIsReadAgain) (term_plain : TermIsPlain) where
  read_back : (ls : List Line) → list_all fits_line ls ≡ true → map line_from (map line_text ls) ≡ ls
  read_back [] h = refl
  read_back (l ∷ ls) h = let p = both (fits_line l) (list_all fits_line ls) h in rw (line_again term_again term_plain l p.0, read_back ls p.1) refl

  same_lines : (a b : List Line) → list_all fits_line a ≡ true → list_all fits_line b ≡ true → map line_text a ≡ map line_text b → a ≡ b
  same_lines a b p q e = sym (read_back a p) ∙ ap (map line_from) e ∙ read_back b q

  -- what is counted of the bytes is what is counted of the lines
  count_of_bytes : (c : Count) (ls : List Line) → list_all fits_line ls ≡ true → counted c (map line_text ls) ≡ count_of c ls
  count_of_bytes c [] h = refl
  count_of_bytes c (l ∷ ls) h =
      let p = both (fits_line l) (list_all fits_line ls) h in
      ap (λ x. counted (after x c) (map line_text ls)) (line_again term_again term_plain l p.0) ∙ count_of_bytes (after l c) ls p.1

  pub count_is : (front : List (List ℕ)) (s : State) → IsRead front s → s.count ≡ counted start front
  count_is front s r = r.count ∙ sym (count_of_bytes start r.lines r.fit) ∙ ap (counted start) (sym r.spelled)

  -- lines of a plan that begin with some that were read
  record Goes (front : List (List ℕ)) (s : State) (r : IsRead front s) (p : Plan) (bytes : List ℕ) : Type 0 where
    line : Line
    more : List Line
    lines : plan_lines p ≡ r.lines ++ line ∷ more
    spelled : line_text line ≡ bytes

  cut : (ls : List Line) (all : List Line) (bytes : List ℕ) (more : List (List ℕ)) → list_all fits_line ls ≡ true → list_all fits_line all ≡ true → map line_text all ≡ map line_text ls ++ bytes ∷ more
      → (l : Line) × (rest : List Line) × (all ≡ ls ++ l ∷ rest) × (line_text l ≡ bytes)
  cut [] [] bytes more p q e = absurd cc
  cut [] (l ∷ rest) bytes more p q e = let h : line_text l ≡ bytes = cc in (l, rest, refl, h)
  cut (x ∷ ls) [] bytes more p q e = absurd cc
  cut (x ∷ ls) (y ∷ all) bytes more p q e =
      let head : line_text y ≡ line_text x = cc in
      let tail : map line_text all ≡ map line_text ls ++ bytes ∷ more = cc in
      let one = both (fits_line x) (list_all fits_line ls) p in
      let other = both (fits_line y) (list_all fits_line all) q in
      let same : y ≡ x = sym (line_again term_again term_plain y other.0) ∙ ap line_from head ∙ line_again term_again term_plain x one.0 in
      let c = cut ls all bytes more one.1 other.1 tail in
      (c.0, c.1, ap (λ w. w ∷ all) same ∙ ap (λ w. x ∷ w) c.2, c.3)

  with_line_some : (l : Line) (s : State) (d : Draft) → next l s.draft ≡ Some d → (t : State) × (with_line l s ≡ Some t)
  with_line_some l s d e = (record { draft = d; count = after l s.count }, rw e refl)

  state_some : (number : ℕ) (bytes : List ℕ) (s : State) (l : Line) (t : State) → line_from bytes ≡ l → line_text l ≡ bytes → fits_line l ≡ true → is_lawful l s.count ≡ true → is_within number bytes ≡ true
      → with_line l s ≡ Some t → next_state number bytes s ≡ Some t
  state_some number bytes s l t from spelled fit lawful within made =
      let equal : bytes_eq (line_text l) bytes ≡ true = (bytes_eq-Decides (line_text l) bytes).1 spelled in
      rw (from, within, fit, equal, lawful) made

  -- a line that is refused goes on with no plan
  pub refused : (front : List (List ℕ)) (bytes : List ℕ) (s : State) → IsRead front s → next_state (1 + length front) bytes s ≡ None → Begins plan_notation 1 (front ++ bytes ∷ []) → ⊥
  refused front bytes s r none b =
      let f = fine b.value b.fit in
      let lines : map line_text (plan_lines b.value) ≡ map line_text r.lines ++ bytes ∷ b.more =
      b.begun ∙ append_assoc front (bytes ∷ []) b.more ∙ ap (λ w. w ++ bytes ∷ b.more) r.spelled in
      let c = cut r.lines (plan_lines b.value) bytes b.more r.fit f.fit lines in
      let l = c.0 in
      let again = plan_again b.value f.shape in
      let step = drafted_split Nothing r.lines l c.1 s.draft again.draft r.made (ap (drafted Nothing) (sym c.2) ∙ again.made) in
      let tail = all_front fits_line r.lines (l ∷ c.1) (ap (list_all fits_line) (sym c.2) ∙ f.fit) in
      let fit = (both (fits_line l) (list_all fits_line c.1) tail.1).0 in
      let numbers = numbered_back start r.lines (l ∷ c.1) (ap (are_numbered start) (sym c.2) ∙ f.numbered) in
      let numbered : is_numbered l s.count ≡ true = ap (is_numbered l) r.count ∙ (both (is_numbered l (count_of start r.lines)) (are_numbered (after l (count_of start r.lines)) c.1) numbers).0 in
      let stand : (may_stand l s.count.stage && placed (stage_after l s.count.stage) c.1) ≡ true = sym (r.stand (l ∷ c.1)) ∙ ap (placed outside) (sym c.2) ∙ f.stand in
      let lawful : is_lawful l s.count ≡ true = rw ((both (may_stand l s.count.stage) (placed (stage_after l s.count.stage) c.1) stand).0) numbered in
      let from : line_from bytes ≡ l = ap line_from (sym c.3) ∙ line_again term_again term_plain l fit in
      let some = with_line_some l s step.0 step.1 in
      none_some (next_state (1 + length front) bytes s) some.0 none (state_some (1 + length front) bytes s l some.0 from c.3 fit lawful (within_last 1 front bytes b.within) some.1)

  -- lines that were read and are not whole are no plan's
  pub unfinished : (front : List (List ℕ)) (s : State) → IsRead front s → finished_state s ≡ None → (p : Plan) → fits_plan p ≡ true → plan_notation.lines p ≡ front → ⊥
  unfinished front s r none p fits e =
      let f = fine p fits in
      let same : plan_lines p ≡ r.lines = same_lines (plan_lines p) r.lines f.fit r.fit (e ∙ r.spelled) in
      let again = plan_again p f.shape in
      let draft : again.draft ≡ s.draft = some_is again.draft s.draft (sym again.made ∙ ap (drafted Nothing) same ∙ r.made) in
      let last : s.count.stage.published ≡ true = sym (published_is front s r) ∙ ap (placed outside) (sym same) ∙ f.stand in
      none_some (finished_state s) p none (rw last (ap finished (sym draft) ∙ again.whole))

  lines_feedless : (ls : List Line) → list_all fits_line ls ≡ true → list_all is_line (map line_text ls) ≡ true
  lines_feedless [] h = refl
  lines_feedless (l ∷ ls) h = let p = both (fits_line l) (list_all fits_line ls) h in rw (line_feedless term_plain l p.0, lines_feedless ls p.1) refl

  one_plan : (a b : Plan) → fits_plan a ≡ true → fits_plan b ≡ true → plan_notation.lines a ≡ plan_notation.lines b → a ≡ b
  one_plan a b p q e =
      let f = fine a p in
      let g = fine b q in
      let same = same_lines (plan_lines a) (plan_lines b) f.fit g.fit e in
      let one = plan_again a f.shape in
      let other = plan_again b g.shape in
      let draft : one.draft ≡ other.draft = some_is one.draft other.draft (sym one.made ∙ ap (drafted Nothing) same ∙ other.made) in
      some_is a b (sym one.whole ∙ ap finished draft ∙ other.whole)

  pub lawful : IsLawful plan_notation
  lawful = record { feedless = λ p h. lines_feedless (plan_lines p) (fine p h).fit; one = one_plan }
