-- Schedules that are compared one after another.
use Rattle.std.proofs.Common.{◌≡◌, ◌∙◌, ◌+◌, ◌<◌, ◌≤◌, ap, refl, suc, sym, subst, inl, inr, ◌⊎◌, ℕ, List, [], ◌∷◌, All, Bor, Result, Ok, Err, Some, option_map, length, get_or, map, slice_get, take, arith}
use Rattle.std.proofs.lemmas.List.{length-map, take_all}
use Rattle.std.proofs.lemmas.List.Elements.{All-append, All-cons, All-nil}
use Rattle.std.proofs.lemmas.Option.{slice_get-get_or, slice_get-map}
use Rattle.plain.proofs.Machine.{take_at}
use Rattle.std.specs.Prelude.{IfErr, OnOk}
use Rattle.clap.specs.Words.{Text}
use Rattle.meaning.specs.Algorithm.{Algorithm}
use Rattle.commands.specs.declared.pipeline.fault.Fault.{Fault}
use Rattle.stencil.specs.Compares.{IsLegalFile, IsRefusedAmong, IsUnplanned}
use Rattle.commands.specs.Files.{Contents, SameFiles}
use Rattle.stencil.proofs.Compiled.{schedule_before, schedule_fault_before}

-- what a file is afterwards it was before
pub legal_before : (a b : Contents) (al : Algorithm) (name : Text) → SameFiles a b → IsLegalFile b al name → IsLegalFile a al name
legal_before a b al name same h = (h.0, schedule_before a b name h.0 same h.1, h.2)

pub unplanned_before : (a b : Contents) (al : Algorithm) (name : Text) (fault : Fault) → SameFiles a b → IsUnplanned b al name fault → IsUnplanned a al name fault
unplanned_before a b al name fault same (inl device) = inl device
unplanned_before a b al name fault same (inr (inl h)) = inr (inl (schedule_fault_before a b name fault same h))
unplanned_before a b al name fault same (inr (inr h)) = inr (inr (h.0, schedule_before a b name h.0 same h.1, h.2))

module _ (files now : Contents) (al : Algorithm) (names : List (Bor (List ℕ))) (n : ℕ) (d : Bor (List ℕ)) (lt : n < length names) (same : SameFiles files now) where
  abbrev pub texts : List Text
  texts = map (λ name. name.now) names

  this : slice_get texts n ≡ Some (get_or names n d).now
  this = slice_get-map (λ name. name.now) names n ∙ ap (option_map (λ name. name.now)) (slice_get-get_or names n d lt)

  -- the schedules up to this one
  pub legal_next : All (IsLegalFile files al) (take n texts) → IsLegalFile now al (get_or names n d).now → All (IsLegalFile files al) (take (n + 1) texts)
  legal_next before h =
      subst (All (IsLegalFile files al)) (sym (take_at texts n _ this))
      (All-append (IsLegalFile files al) (take n texts) ((get_or names n d).now ∷ []) before
      (All-cons (IsLegalFile files al) _ [] (legal_before files now al _ same h) (All-nil (IsLegalFile files al))))

  pub refused_among : (fault told : Fault) → All (IsLegalFile files al) (take n texts) → IsUnplanned now al (get_or names n d).now fault → told ≡ fault → IsRefusedAmong files al texts told
  refused_among fault told before h e = record {
    place = n;
    name = (get_or names n d).now;
    named = this;
    before = before;
    refused = subst (IsUnplanned files al (get_or names n d).now) (sym e) (unplanned_before files now al _ fault same h);
  }

-- all of them
pub legal_whole : (files : Contents) (al : Algorithm) (names : List (Bor (List ℕ))) (n : ℕ) → length names ≤ n → All (IsLegalFile files al) (take n (map (λ name. name.now) names))
    → All (IsLegalFile files al) (map (λ name. name.now) names)
legal_whole files al names n le h = subst (All (IsLegalFile files al)) (take_all n _ (rw (length-map names (λ name. name.now)) le)) h

-- a schedule and those behind it
pub legal_behind : (files now : Contents) (al : Algorithm) (first : Text) (rest : List Text) → SameFiles files now → IsLegalFile files al first
    → All (IsLegalFile now al) rest → All (IsLegalFile files al) (first ∷ rest)
legal_behind files now al first rest same h hs =
    All-cons (IsLegalFile files al) first rest h (λ k d lt. legal_before files now al _ same (hs k d lt))

pub refused_first : (files : Contents) (al : Algorithm) (first : Text) (rest : List Text) (fault : Fault) → IsUnplanned files al first fault
    → IsRefusedAmong files al (first ∷ rest) fault
refused_first files al first rest fault h = record {
  place = 0;
  name = first;
  named = refl;
  before = All-nil (IsLegalFile files al);
  refused = h;
}

pub refused_behind : (files now : Contents) (al : Algorithm) (first : Text) (rest : List Text) (fault : Fault) → SameFiles files now → IsLegalFile files al first
    → IsRefusedAmong now al rest fault → IsRefusedAmong files al (first ∷ rest) fault
refused_behind files now al first rest fault same h among = record {
  place = suc among.place;
  name = among.name;
  named = among.named;
  before = legal_behind files now al first (take among.place rest) same h among.before;
  refused = unplanned_before files now al among.name fault same among.refused;
}

-- the same of what came of those behind it
module _ (files now : Contents) (al : Algorithm) (first : Text) (rest : List Text) (same : SameFiles files now) (h : IsLegalFile files al first) where
  pub all_behind : (r : Result (Unit {0}) Fault) → OnOk r (All (IsLegalFile now al) rest) → OnOk r (All (IsLegalFile files al) (first ∷ rest))
  all_behind (Ok u) hs = legal_behind files now al first rest same h hs
  all_behind (Err e) hs = tt

  pub among_behind : (r : Result (Unit {0}) Fault) → IfErr r (IsRefusedAmong now al rest) → IfErr r (IsRefusedAmong files al (first ∷ rest))
  among_behind (Ok u) among = tt
  among_behind (Err e) among = refused_behind files now al first rest e same h among

-- where there are none
pub none_legal : (files : Contents) (al : Algorithm) (names : List (Bor (List ℕ))) → length names ≡ 0 → All (IsLegalFile files al) (map (λ name. name.now) names)
none_legal files al names e = legal_whole files al names 0 (omega (arith, e)) (All-nil (IsLegalFile files al))

-- a reason of one kind is one of two
pub on_right : (A B : Fault → Type 0) (r : Result (Unit {0}) Fault) → IfErr r B → IfErr r (λ fault. A fault ⊎ B fault)
on_right A B (Ok u) h = tt
on_right A B (Err e) h = inr h

-- with what is known of the words beside the first of the two
pub with_words : (P : Type 0) (A B : Fault → Type 0) → P → (r : Result (Unit {0}) Fault) → IfErr r (λ fault. A fault ⊎ B fault) → IfErr r (λ fault. (P × A fault) ⊎ B fault)
with_words P A B p (Ok u) h = tt
with_words P A B p (Err e) (inl a) = inl (p, a)
with_words P A B p (Err e) (inr b) = inr b
