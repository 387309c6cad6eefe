-- What becomes of a text on its way to a writer, piece by piece.
use Rattle.std.proofs.Common.{◌≡◌, ℕ, ◌+◌, ◌-◌, ◌≤◌, ◌^◌, min, refl, sym, ap, ◌∙◌, subst, List, [], ◌++◌, length, take}
use Rattle.std.proofs.Common.{drop, append_assoc, append-nil, length-append, length-drop, Bool, true, false, Option}
use Rattle.std.proofs.Common.{Result, Ok, Err, arith}
use Rattle.std.specs.Prelude.{IfErr, MatchResult, OnOk}
use Rattle.std.proofs.Math.Seq.{take-add}
use Rattle.std.proofs.Math.ListN.{drop_of_length-le}
use Rattle.std.proofs.lemmas.List.{take-append-le, drop-append-le, take_all}
use Rattle.std.proofs.lemmas.Bool.{ltb-false}
use Rattle.std.proofs.KnownBytes.{Appends-trans}
use Rattle.std.specs.Prelude.{MatchBool}
use Rattle.std.specs.Borrow.{MutBor}
use Rattle.std.specs.Io.KnownBytes.{Appends}
use Rattle.tfiles.specs.declared.writing.output.Output.{Output}
use Rattle.tfiles.specs.declared.writing.output.Progress.{Progress}
use Rattle.tfiles.specs.declared.writing.output.WriteFault.{WriteFault}
use Rattle.tfiles.specs.Failures.{Counts, HasRisen, HasStayed}
use Rattle.tfiles.specs.Outputs.{IsCut, IsOut, Takes, HandsOn, IsTold, IsCaused, Tells, IsFresh, IsEnd}
use Rattle.tfiles.proofs.Failures.{counts-then}

-- a text that is cut and goes on is cut at the same place
cut-longer : (start now : Option (List ℕ)) (text piece : List ℕ) (written : ℕ) → (c : IsCut start now text written)
    → (d : IsCut start now (text ++ piece) written) × (d.count ≡ c.count)
cut-longer start now text piece written c = (
  record {
    count = c.count;
    within = omega (arith, c.within, length-append text piece);
    out = subst (Appends start now) (sym (take-append-le c.count text piece c.within)) c.out;
    told = c.told;
  },
  refl,
)

-- the writer takes the first bytes behind the cut
cut-further : (start old new : Option (List ℕ)) (text rest : List ℕ) (written taken more : ℕ)
    → (c : IsCut start old text written) → rest ≡ drop c.count text → taken ≤ length rest
    → Appends old new (take taken rest) → more ≡ min (written + taken) (2 ^ 64 - 1) → (d : IsCut start new text more)
    × (d.count ≡ c.count + taken)
cut-further start old new text rest written taken more c r l a m = (
  record {
    count = c.count + taken;
    within = (let e : length rest ≡ length text - c.count = ap length r ∙ length-drop c.count text in
        omega (arith, e, l, c.within));
    out = subst (Appends start new) (ap (λ (xs : List ℕ). take c.count text ++ take taken xs) r
        ∙ sym (take-add c.count taken text))
        (Appends-trans start old new (take c.count text) (take taken rest) c.out a);
    told = omega (arith, m, c.told);
  },
  refl,
)

-- a part was told, and this is left of a whole text
pub record GoesOn {W : Type 0} (contents : W → Option (List ℕ)) (failures : W → Option ℕ) (a b : Output W)
    (left whole : List ℕ) : Type 0 where
  pub piece : List ℕ
  pub tells : Tells contents failures a b piece
  pub is_whole : piece ++ left ≡ whole

-- what is caused stays so, where neither the writer nor the progress changes
caused_kept : {W : Type 0} (failures : W → Option ℕ) (a b : Output W) → b.writer.now ≡ a.writer.now
    → b.progress ≡ a.progress → (start : Option ℕ) → IsCaused failures start a → IsCaused failures start b
caused_kept {W} failures a b w p start h =
    subst (λ (v : W). Counts start (failures v) b.progress.failed) (sym w)
    (subst (λ (q : Progress). Counts start (failures a.writer.now) q.failed) (sym p) h)

module _ {W : Type 0} {contents : W → Option (List ℕ)} {failures : W → Option ℕ} where
  -- nothing was said
  pub tells_none : (o : Output W) → Tells contents failures o o []
  tells_none o =
      record {
        same = refl;
        goes_on =
            λ start text h. subst (λ (t : List ℕ). IsTold contents start t o) (sym (append-nil text)) h;
        caused = λ start h. h;
      }

  -- two pieces, one after the other
  pub tells_then : {a b c : Output W} {s t : List ℕ} → Tells contents failures a b s → Tells contents failures b c t
      → Tells contents failures a c (s ++ t)
  tells_then {a} {b} {c} {s} {t} f g =
      record {
        same = g.same ∙ f.same;
        goes_on =
            λ start text h. subst (λ (u : List ℕ). IsTold contents start u c) (append_assoc text s t)
            (g.goes_on start (text ++ s) (f.goes_on start text h));
        caused = λ start h. g.caused start (f.caused start h);
      }

  -- the same piece
  pub tells_as : {a b : Output W} {s t : List ℕ} → Tells contents failures a b s → s ≡ t → Tells contents failures a b t
  tells_as {a} {b} f e = subst (Tells contents failures a b) e f

  -- bytes wait behind those that wait
  pub tells_kept : (a b : Output W) (bytes : List ℕ) → b.writer ≡ a.writer → b.progress ≡ a.progress
      → b.waiting ≡ a.waiting ++ bytes → Tells contents failures a b bytes
  tells_kept a b bytes w p e =
      record {
        same = ap (λ (r : MutBor W). r.ghost_name) w;
        goes_on = λ start text h. told start text h;
        caused = λ start h. caused_kept failures a b (ap (λ (r : MutBor W). r.now) w) p start h;
      }
    where
      told : (start : Option (List ℕ)) (text : List ℕ) → IsTold contents start text a
          → IsTold contents start (text ++ bytes) b
      told start text h =
          let c = cut-longer start (contents a.writer.now) text bytes a.progress.written h.cut in
          let moved : (d : IsCut start (contents b.writer.now) (text ++ bytes) b.progress.written)
          × (d.count ≡ h.cut.count) =
          subst (λ (r : MutBor W). (d : IsCut start (contents r.now) (text ++ bytes) b.progress.written)
          × (d.count ≡ h.cut.count)) (sym w)
          (subst (λ (q : Progress). (d : IsCut start (contents a.writer.now) (text ++ bytes) q.written)
          × (d.count ≡ h.cut.count)) (sym p) c) in
          record {
            cut = moved.0;
            rest = λ f.
                e ∙ ap (λ (xs : List ℕ). xs ++ bytes) (h.rest (ap (λ (q : Progress). q.failed) (sym p) ∙ f))
                ∙ sym (drop-append-le h.cut.count text bytes h.cut.within)
                ∙ ap (λ (n : ℕ). drop n (text ++ bytes)) (sym moved.1);
          }

  -- bytes that wait, or that come while none wait, are handed on
  pub tells_handed : (a b : Output W) (rest bytes : List ℕ) → rest ≡ a.waiting ++ bytes
      → b.writer.ghost_name ≡ a.writer.ghost_name
      → HandsOn contents failures a.writer.now b.writer.now rest a.progress b.progress → b.waiting ≡ []
      → Tells contents failures a b bytes
  tells_handed a b rest bytes r same h none =
      record {
        same = same;
        goes_on = λ start text t. by start text t a.progress.failed refl h;
        caused = λ start t. why start t a.progress.failed refl h;
      }
    where
      why : (start : Option ℕ) → IsCaused failures start a → (f : Bool) → a.progress.failed ≡ f
          → MatchBool f ((b.writer.now ≡ a.writer.now) × (b.progress ≡ a.progress))
          (Takes contents failures a.writer.now b.writer.now rest a.progress b.progress)
          → IsCaused failures start b
      why start t true e k = caused_kept failures a b k.0 k.1 start t
      why start t false e k =
          counts-then start (failures a.writer.now) (failures b.writer.now) b.progress.failed
          (subst (Counts start (failures a.writer.now)) e t) k.cause

      by : (start : Option (List ℕ)) (text : List ℕ) → IsTold contents start text a → (f : Bool) → a.progress.failed ≡ f
          → MatchBool f ((b.writer.now ≡ a.writer.now) × (b.progress ≡ a.progress))
          (Takes contents failures a.writer.now b.writer.now rest a.progress b.progress)
          → IsTold contents start (text ++ bytes) b
      by start text t true f k =
          let c = cut-longer start (contents a.writer.now) text bytes a.progress.written t.cut in
          record {
            cut = subst (λ (w : W). IsCut start (contents w) (text ++ bytes) b.progress.written) (sym k.0)
                (subst (λ (q : Progress). IsCut start (contents a.writer.now) (text ++ bytes) q.written) (sym k.1) c.0);
            rest = λ e. let both : true ≡ false = sym f ∙ ap (λ (q : Progress). q.failed) (sym k.1) ∙ e in cc;
          }
      by start text t false f k =
          let c = cut-longer start (contents a.writer.now) text bytes a.progress.written t.cut in
          let left : rest ≡ drop c.0.count (text ++ bytes) =
          r ∙ ap (λ (xs : List ℕ). xs ++ bytes) (t.rest f) ∙ sym (drop-append-le t.cut.count text bytes t.cut.within)
          ∙ ap (λ (n : ℕ). drop n (text ++ bytes)) (sym c.1) in
          let d = cut-further start (contents a.writer.now) (contents b.writer.now) (text ++ bytes) rest
          a.progress.written k.count b.progress.written c.0 left k.within k.out k.told in
          record {
            cut = d.0;
            rest = λ e.
                let all : length rest ≤ k.count = ltb-false k.count (length rest) (sym k.failed ∙ e) in
                none ∙ sym
                (drop_of_length-le (text ++ bytes)
                (omega (arith, all, d.1, ap length left, length-drop c.0.count (text ++ bytes))));
          }

  -- the end: the text is out
  pub ends_whole : (a b : Output W) → Tells contents failures a b [] → b.waiting ≡ [] → b.progress.failed ≡ false
      → IsEnd contents failures a b (Ok tt)
  ends_whole a b t w f =
      record {
        same = t.same;
        out = λ start text h.
            let k : IsTold contents start (text ++ []) b = t.goes_on start text h in
            let none : length (drop k.cut.count (text ++ [])) ≡ 0 = ap length (sym (k.rest f) ∙ w) in
            let whole : take k.cut.count (text ++ []) ≡ text =
            take_all k.cut.count (text ++ []) (omega (arith, none, length-drop k.cut.count (text ++ [])))
            ∙ append-nil text in
            subst (Appends start (contents b.writer.now)) whole k.cut.out;
        cause = λ start h. subst (Counts start (failures b.writer.now)) f (t.caused start h);
      }

  -- the end: the text is cut
  pub ends_cut : (a b : Output W) (fault : WriteFault) → Tells contents failures a b []
      → fault.written ≡ b.progress.written → b.progress.failed ≡ true
      → IsEnd contents failures a b (Err fault)
  ends_cut a b fault t e f =
      record {
        same = t.same;
        out = λ start text h.
            let k : IsTold contents start (text ++ []) b = t.goes_on start text h in
            subst (λ (n : ℕ). IsCut start (contents b.writer.now) text n) (sym e)
            (subst (λ (u : List ℕ). IsCut start (contents b.writer.now) u b.progress.written) (append-nil text) k.cut);
        cause = λ start h. subst (Counts start (failures b.writer.now)) f (t.caused start h);
      }

  -- a whole text, from its beginning to its end, with what the writer ends as
  pub written_out : {writer : MutBor W} {a b c : Output W} {text : List ℕ} {result : Result (Unit {0}) WriteFault}
      → IsFresh contents failures writer a → Tells contents failures a b text → IsEnd contents failures b c result
      → (end : W) → (writer.ghost_name ≡ c.writer.ghost_name → end ≡ c.writer.now)
      → IsOut (contents writer.now) (contents end) text result
  written_out {writer} {c = c} {text = text} {result = result} f t e end is =
      subst (λ (w : W). IsOut (contents writer.now) (contents w) text result)
      (sym (is (sym (e.same ∙ t.same ∙ f.same))))
      (e.out (contents writer.now) text (t.goes_on (contents writer.now) [] f.nothing))

  -- it is whole where its writer has counted no failure, and cut where it has counted one
  ended : {writer : MutBor W} {a b c : Output W} {text : List ℕ} {result : Result (Unit {0}) WriteFault}
      → IsFresh contents failures writer a → Tells contents failures a b text → IsEnd contents failures b c result
      → (end : W) → (writer.ghost_name ≡ c.writer.ghost_name → end ≡ c.writer.now)
      → MatchResult result (λ _. HasStayed (failures writer.now) (failures end))
      (λ _. HasRisen (failures writer.now) (failures end))
  ended {writer} {c = c} {result = result} f t e end is =
      subst (λ (w : W). MatchResult result (λ _. HasStayed (failures writer.now) (failures w))
      (λ _. HasRisen (failures writer.now) (failures w)))
      (sym (is (sym (e.same ∙ t.same ∙ f.same))))
      (e.cause (failures writer.now) (t.caused (failures writer.now) f.caused))

  pub cut_by_failure : {writer : MutBor W} {a b c : Output W} {text : List ℕ} {result : Result (Unit {0}) WriteFault}
      → IsFresh contents failures writer a → Tells contents failures a b text → IsEnd contents failures b c result
      → (end : W) → (writer.ghost_name ≡ c.writer.ghost_name → end ≡ c.writer.now)
      → IfErr result (λ _. HasRisen (failures writer.now) (failures end))
  cut_by_failure {writer} {result = result} f t e end is = failed result (ended f t e end is)
    where
      failed : (r : Result (Unit {0}) WriteFault) → MatchResult r (λ _. HasStayed (failures writer.now) (failures end))
          (λ _. HasRisen (failures writer.now) (failures end))
          → IfErr r (λ _. HasRisen (failures writer.now) (failures end))
      failed (Ok u) h = tt
      failed (Err w) h = h

  pub whole_without_failure : {writer : MutBor W} {a b c : Output W} {text : List ℕ}
      {result : Result (Unit {0}) WriteFault}
      → IsFresh contents failures writer a → Tells contents failures a b text → IsEnd contents failures b c result
      → (end : W) → (writer.ghost_name ≡ c.writer.ghost_name → end ≡ c.writer.now)
      → OnOk result (HasStayed (failures writer.now) (failures end))
  whole_without_failure {writer} {result = result} f t e end is = stayed result (ended f t e end is)
    where
      stayed : (r : Result (Unit {0}) WriteFault) → MatchResult r (λ _. HasStayed (failures writer.now) (failures end))
          (λ _. HasRisen (failures writer.now) (failures end)) → OnOk r (HasStayed (failures writer.now) (failures end))
      stayed (Ok u) h = h
      stayed (Err w) h = tt

  -- a part was told of a whole text, and this is left of it
  pub goes_on-start : (a : Output W) (whole : List ℕ) → GoesOn contents failures a a whole whole
  goes_on-start a whole = record { piece = []; tells = tells_none a; is_whole = refl }

  -- the same is left
  pub goes_on-as : {a b : Output W} {left rest whole : List ℕ} → GoesOn contents failures a b left whole → left ≡ rest
      → GoesOn contents failures a b rest whole
  goes_on-as {a} {b} {whole = whole} g e = subst (λ (l : List ℕ). GoesOn contents failures a b l whole) e g

  pub goes_on-next : {a b c : Output W} {left whole : List ℕ} (piece rest : List ℕ)
      → GoesOn contents failures a b left whole → left ≡ piece ++ rest → Tells contents failures b c piece
      → GoesOn contents failures a c rest whole
  goes_on-next piece rest g e t =
      record {
        piece = g.piece ++ piece;
        tells = tells_then g.tells t;
        is_whole = append_assoc g.piece piece rest ∙ ap (λ (xs : List ℕ). g.piece ++ xs) (sym e) ∙ g.is_whole;
      }

  pub goes_on-end : {a b : Output W} {left whole : List ℕ} → GoesOn contents failures a b left whole → left ≡ []
      → Tells contents failures a b whole
  goes_on-end g e =
      tells_as g.tells (sym (append-nil g.piece) ∙ ap (λ (xs : List ℕ). g.piece ++ xs) (sym e) ∙ g.is_whole)
