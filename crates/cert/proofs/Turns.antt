-- The loop that reads a certificate line by line.
use Rattle.std.proofs.Common.{◌≡◌, ℕ, ◌+◌, Bool, true, false, not, List, [], ◌∷◌, ◌++◌, map, length, inl, inr, refl, sym, ap, ◌∙◌, subst, arith, length-append}
use Rattle.std.specs.Prelude.{◌||◌, if◌then◌else◌}
use Rattle.std.specs.List.{list_all}
use Rattle.std.proofs.lemmas.List.{append-nil, map-append}
use Rattle.spelling.specs.Lines.Lines.{is_line, lines_text, is_within, are_within}
use Rattle.spelling.specs.Lines.Texts.{IsTextOf, Begins, IsRefused}
use Rattle.spelling.specs.declared.lines.error.TextError.{TextError}
use Rattle.spelling.specs.declared.lines.error.TextError.TheVariants as error
use Rattle.spelling.proofs.Texts.{are_lines, IsLawful, lines_more, within_more, within_last, ends_early, wrong_form, past_limit}
use Rattle.plan.specs.Certificate.Certificate.{Certificate}
use Rattle.cert.specs.declared.line.Mark.{Mark}
use Rattle.cert.specs.declared.line.Mark.TheVariants as mark
use Rattle.cert.specs.Lines.{Line, OwnLine, NeedLine, WindowLine, End, mark_of, lines_of, claim_lines, with_line}
use Rattle.cert.specs.Spelling.{line_text}
use Rattle.cert.specs.Reading.{line_from}
use Rattle.cert.specs.Order.{fits_line, may_follow, may_stand}
use Rattle.cert.specs.Notation.{certificate_notation, is_large, mark_behind, refusal, IsLine, IsWrong}
use Rattle.cert.proofs.Tests.{both, NextParts, next_parts, next_whole}
use Rattle.cert.proofs.Again.{line_again}
use Rattle.cert.proofs.Feeds.{line_feedless}
use Rattle.cert.proofs.Gathered.{gathered, gathered_more, same_certificate}
use Rattle.cert.proofs.Runs.{last_mark, stands, stand_both, stand_behind, all_fit, last_push, completion, completion_stands, completed}

abbrev texts : List Line → List (List ℕ)
texts ls = map line_text ls

-- ---- lines and their texts

same_line : (a b : Line) → fits_line a ≡ true → fits_line b ≡ true → line_text a ≡ line_text b → a ≡ b
same_line a b p q e = sym (line_again a p) ∙ ap line_from e ∙ line_again b q

head_is : (a b : List ℕ) (x y : List (List ℕ)) → a ∷ x ≡ b ∷ y → (a ≡ b) × (x ≡ y)
head_is a b x y e = (cc, cc)

none_is : (a : List ℕ) (x : List (List ℕ)) → [] ≡ a ∷ x → ⊥
none_is a x e = cc

same_texts : (xs ys : List Line) → list_all fits_line xs ≡ true → list_all fits_line ys ≡ true → texts xs ≡ texts ys → xs ≡ ys
same_texts [] [] p q e = refl
same_texts [] (b ∷ ys) p q e = absurd (none_is (line_text b) (texts ys) e)
same_texts (a ∷ xs) [] p q e = absurd (none_is (line_text a) (texts xs) (sym e))
same_texts (a ∷ xs) (b ∷ ys) p q e =
    let one = both (fits_line a) (list_all fits_line xs) p in
    let other = both (fits_line b) (list_all fits_line ys) q in
    let h = head_is (line_text a) (line_text b) (texts xs) (texts ys) e in
    ap (λ (l : Line). l ∷ xs) (same_line a b one.0 other.0 h.0) ∙ ap (λ (ls : List Line). b ∷ ls) (same_texts xs ys one.1 other.1 h.1)

-- lines whose texts begin with those of others begin with them, and go on with a line
record GoesOn (front ls : List Line) (bytes : List ℕ) : Type 0 where
  line : Line
  more : List Line
  whole : ls ≡ front ++ line ∷ more
  spelled : bytes ≡ line_text line

goes_on : (front ls : List Line) (bytes : List ℕ) (more : List (List ℕ)) → list_all fits_line front ≡ true → list_all fits_line ls ≡ true
    → texts ls ≡ (texts front ++ bytes ∷ []) ++ more → GoesOn front ls bytes
goes_on [] [] bytes more p q e = absurd (none_is bytes more e)
goes_on [] (l ∷ ls) bytes more p q e = record { line = l; more = ls; whole = refl; spelled = sym (head_is (line_text l) bytes (texts ls) more e).0 }
goes_on (f ∷ front) [] bytes more p q e = absurd (none_is (line_text f) ((texts front ++ bytes ∷ []) ++ more) e)
goes_on (f ∷ front) (l ∷ ls) bytes more p q e =
    let one = both (fits_line f) (list_all fits_line front) p in
    let other = both (fits_line l) (list_all fits_line ls) q in
    let h = head_is (line_text l) (line_text f) (texts ls) ((texts front ++ bytes ∷ []) ++ more) e in
    let next = goes_on front ls bytes more one.1 other.1 h.1 in
    record {
      line = next.line;
      more = next.more;
      whole = ap (λ (x : Line). x ∷ ls) (same_line l f other.0 one.0 h.0) ∙ ap (λ (xs : List Line). f ∷ xs) next.whole;
      spelled = next.spelled;
    }

feedless_texts : (ls : List Line) → list_all fits_line ls ≡ true → are_lines (texts ls) ≡ true
feedless_texts [] h = refl
feedless_texts (l ∷ ls) h = let p = both (fits_line l) (list_all fits_line ls) h in rw (line_feedless l p.0, feedless_texts ls p.1) refl

pub lawful : IsLawful certificate_notation
lawful = record {
  feedless = λ c fits. feedless_texts (lines_of c) (all_fit mark.Start (lines_of c) fits);
  one = λ a b p q e. same_certificate a b (same_texts (lines_of a) (lines_of b) (all_fit mark.Start (lines_of a) p) (all_fit mark.Start (lines_of b) q) e);
}

-- the mark of the last line, told by its text
texts_mark : (p : Mark) (ls : List Line) → list_all fits_line ls ≡ true → mark_behind p (texts ls) ≡ last_mark p ls
texts_mark p [] h = refl
texts_mark p (l ∷ ls) h =
    let q = both (fits_line l) (list_all fits_line ls) h in
    ap (λ (x : Line). mark_behind (mark_of x) (texts ls)) (line_again l q.0) ∙ texts_mark (mark_of l) ls q.1

-- the last line of a certificate is `end`
last_behind : (p : Mark) (front back : List Line) → last_mark p (front ++ back) ≡ last_mark (last_mark p front) back
last_behind p [] back = refl
last_behind p (l ∷ front) back = last_behind (mark_of l) front back

ends : (front : List Line) (p : Mark) → last_mark p (front ++ End ∷ []) ≡ mark.End
ends front p = last_push p front End

last_is_end : (c : Certificate) → last_mark mark.Start (lines_of c) ≡ mark.End
last_is_end c =
    let own = map OwnLine c.own in
    let needs = map NeedLine c.needs in
    let claims = claim_lines 0 c.claims in
    let windows = map WindowLine c.windows in
    last_behind mark.Head own (needs ++ (claims ++ (windows ++ End ∷ [])))
    ∙ last_behind (last_mark mark.Head own) needs (claims ++ (windows ++ End ∷ []))
    ∙ last_behind (last_mark (last_mark mark.Head own) needs) claims (windows ++ End ∷ [])
    ∙ ends windows (last_mark (last_mark (last_mark mark.Head own) needs) claims)

-- ---- the state of the loop

-- what has been read are the first lines of a certificate
pub record IsRead (first : ℕ) (text rest : List ℕ) (number : ℕ) (last : Mark) (c : Certificate) : Type 0 where
  pub front : List Line
  pub spelled : text ≡ lines_text (texts front) ++ rest
  pub counted : number ≡ first + length (texts front)
  pub within : are_within first (texts front) ≡ true
  pub stand : may_stand mark.Start front ≡ true
  pub marked : last_mark mark.Start front ≡ last
  pub gathers : gathered front ≡ c

pub at_start : (first : ℕ) (text : List ℕ) → IsRead first text text first mark.Start (gathered [])
at_start first text = record { front = []; spelled = refl; counted = omega arith; within = refl; stand = refl; marked = refl; gathers = refl }

module _ (first : ℕ) (text rest : List ℕ) (number : ℕ) (last : Mark) (c : Certificate) (read : IsRead first text rest number last c) where
  pub one_more : (bytes after : List ℕ) (l : Line) → rest ≡ bytes ++ 10 ∷ after → IsLine last number bytes l → IsRead first text after (number + 1) (mark_of l) (with_line c l)
  one_more bytes after l e line =
      let next = next_parts last bytes l line.next in
      let pushed : texts (read.front ++ l ∷ []) ≡ texts read.front ++ line_text l ∷ [] = map-append line_text read.front (l ∷ []) in
      let split : rest ≡ line_text l ++ 10 ∷ after = e ∙ ap (λ (w : List ℕ). w ++ 10 ∷ after) next.spelled in
      let inside : is_within (first + length (texts read.front)) (line_text l) ≡ true = subst (λ (w : List ℕ). is_within (first + length (texts read.front)) w ≡ true) next.spelled (subst (λ (n : ℕ). is_within n bytes ≡ true) read.counted line.within) in
      let follows : may_follow (last_mark mark.Start read.front) (mark_of l) ≡ true = subst (λ (m : Mark). may_follow m (mark_of l) ≡ true) (sym read.marked) next.follows in
      record {
        front = read.front ++ l ∷ [];
        spelled = lines_more text rest after (line_text l) (texts read.front) read.spelled split ∙ ap (λ (w : List (List ℕ)). lines_text w ++ after) (sym pushed);
        counted = omega (arith, read.counted, ap length pushed, length-append (texts read.front) (line_text l ∷ []));
        within = subst (λ (w : List (List ℕ)). are_within first w ≡ true) (sym pushed) (within_more first (texts read.front) (line_text l) read.within inside);
        stand = stand_both mark.Start read.front (l ∷ []) read.stand (rw (follows, next.fit) refl);
        marked = last_push mark.Start read.front l;
        gathers = gathered_more read.front l ∙ ap (λ (d : Certificate). with_line d l) read.gathers;
      }

  begun : Begins certificate_notation first (texts read.front)
  begun =
      let whole = completed read.front read.stand in
      let stand : may_stand mark.Start (read.front ++ completion (last_mark mark.Start read.front)) ≡ true =
      stand_both mark.Start read.front (completion (last_mark mark.Start read.front)) read.stand (completion_stands (last_mark mark.Start read.front)) in
      record {
        value = gathered read.front;
        more = texts (completion (last_mark mark.Start read.front));
        fit = subst (λ (ls : List Line). may_stand mark.Start ls ≡ true) whole stand;
        begun = ap texts (sym whole) ∙ map-append line_text read.front (completion (last_mark mark.Start read.front));
        within = read.within;
      }

  -- a line with which a certificate's text goes on may stand there
  next_is : (bytes : List ℕ) → Begins certificate_notation first (texts read.front ++ bytes ∷ []) → (l : Line) × IsLine last number bytes l
  next_is bytes b =
      let front_fits = all_fit mark.Start read.front read.stand in
      let g = goes_on read.front (lines_of b.value) bytes b.more front_fits (all_fit mark.Start (lines_of b.value) b.fit) b.begun in
      let stand : may_stand mark.Start (read.front ++ g.line ∷ g.more) ≡ true = subst (λ (ls : List Line). may_stand mark.Start ls ≡ true) g.whole b.fit in
      let s = stands (last_mark mark.Start read.front) g.line g.more (stand_behind mark.Start read.front (g.line ∷ g.more) stand) in
      let parts : NextParts last bytes g.line = record { fit = s.fit; follows = subst (λ (m : Mark). may_follow m (mark_of g.line) ≡ true) read.marked s.follows; spelled = g.spelled } in
      let inside : is_within number bytes ≡ true = subst (λ (n : ℕ). is_within n bytes ≡ true) (sym read.counted) (within_last first (texts read.front) bytes b.within) in
      (g.line, record { within = inside; next = next_whole last bytes g.line parts })

  -- the numbers of the line that is named
  named_form : IsRefused certificate_notation first text (error.Form (first + length (texts read.front))) → IsRefused certificate_notation first text (error.Form number)
  named_form r = subst (λ (n : ℕ). IsRefused certificate_notation first text (error.Form n)) (sym read.counted) r

  named_limit : IsRefused certificate_notation first text (error.Limit (first + length (texts read.front))) → IsRefused certificate_notation first text (error.Limit number)
  named_limit r = subst (λ (n : ℕ). IsRefused certificate_notation first text (error.Limit n)) (sym read.counted) r

  module _ (bytes after : List ℕ) (split : rest ≡ bytes ++ 10 ∷ after) (one : is_line bytes ≡ true) (no_line : (l : Line) → IsLine last number bytes l → ⊥) where
    wrong : Begins certificate_notation first (texts read.front ++ bytes ∷ []) → ⊥
    wrong b = let n = next_is bytes b in no_line n.0 n.1

    behind : last ≡ mark_behind mark.Start (texts read.front)
    behind = sym read.marked ∙ sym (texts_mark mark.Start read.front (all_fit mark.Start read.front read.stand))

    at_front : (large : Bool) → (not (is_within number bytes) || is_large last bytes) ≡ large
        → (not (is_within (first + length (texts read.front)) bytes) || is_large (mark_behind mark.Start (texts read.front)) bytes) ≡ large
    at_front large h =
        ap (λ (n : ℕ). not (is_within n bytes) || is_large (mark_behind mark.Start (texts read.front)) bytes) (sym read.counted)
        ∙ ap (λ (m : Mark). not (is_within number bytes) || is_large m bytes) (sym behind) ∙ h

    refused_by : (large : Bool) → (not (is_within number bytes) || is_large last bytes) ≡ large
        → IsRefused certificate_notation first text (if large then error.Limit number else error.Form number)
    refused_by true h = named_limit (past_limit certificate_notation lawful first text rest (texts read.front) read.spelled begun bytes after split one wrong (at_front true h))
    refused_by false h = named_form (wrong_form certificate_notation lawful first text rest (texts read.front) read.spelled begun bytes after split one wrong (at_front false h))

    pub refused : IsRefused certificate_notation first text (refusal last number bytes)
    refused = refused_by (not (is_within number bytes) || is_large last bytes) refl

  pub refused_line : (bytes after : List ℕ) (e : TextError) → rest ≡ bytes ++ 10 ∷ after → is_line bytes ≡ true → IsWrong last number bytes e → IsRefused certificate_notation first text e
  refused_line bytes after e split one (inl h) = subst (IsRefused certificate_notation first text) (sym h) tt
  refused_line bytes after e split one (inr h) = subst (IsRefused certificate_notation first text) (sym h.0) (refused bytes after split one h.1)

  -- the text ends behind a certificate's last line
  pub whole_text : last ≡ mark.End → rest ≡ [] → IsTextOf certificate_notation first text c
  whole_text ended empty =
      let missing : completion (last_mark mark.Start read.front) ≡ [] = ap completion (read.marked ∙ ended) in
      let whole : read.front ≡ lines_of c = sym (append-nil read.front) ∙ ap (λ (w : List Line). read.front ++ w) (sym missing) ∙ completed read.front read.stand ∙ ap lines_of read.gathers in
      record {
        spelled = read.spelled ∙ ap (λ (w : List ℕ). lines_text (texts read.front) ++ w) empty ∙ append-nil (lines_text (texts read.front)) ∙ ap (λ (ls : List Line). lines_text (texts ls)) whole;
        fit = subst (λ (ls : List Line). may_stand mark.Start ls ≡ true) whole read.stand;
        within = subst (λ (ls : List Line). are_within first (texts ls) ≡ true) whole read.within;
      }

  -- the text ends before that
  pub ended_early : is_line rest ≡ true → (rest ≡ [] → last ≡ mark.End → ⊥) → IsRefused certificate_notation first text (error.Form number)
  ended_early one open_end =
      named_form (ends_early certificate_notation lawful first text rest (texts read.front) read.spelled begun one (λ empty v fits same.
      let whole = same_texts (lines_of v) read.front (all_fit mark.Start (lines_of v) fits) (all_fit mark.Start read.front read.stand) same in
      open_end empty (sym read.marked ∙ ap (last_mark mark.Start) (sym whole) ∙ last_is_end v)))
