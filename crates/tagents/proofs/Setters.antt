-- The two setters are a framed machine, and their run has no race.
use Rattle.std.proofs.Common.{◌≡◌, ◌≢◌, refl, sym, ap, ◌∙◌, Bool, true, false, inr, true≢false}
use Rattle.std.proofs.Common.{Some, None, if◌then◌else◌}
use Rattle.std.proofs.lemmas.Option.{same_Some}
use Rattle.tagents.specs.Agents.{Does, IsOver}
use Rattle.tagents.specs.Frames.{changed, IsFramed, IsFramedMachine}
use Rattle.tagents.specs.Examples.{alike, flags, setters, none_set, both_set, SettersAreCertified}
use Rattle.tagents.proofs.Framed.{lawful}

alike_same : (a b : Bool) → alike a b ≡ true → a ≡ b
alike_same true true h = refl
alike_same false false h = refl
alike_same true false h = absurd (true≢false (sym h))
alike_same false true h = absurd (true≢false (sym h))

alike_not : (a b : Bool) → alike a b ≡ false → a ≢ b
alike_not true true h q = true≢false h
alike_not false false h q = true≢false h
alike_not true false h q = true≢false q
alike_not false true h q = true≢false (sym q)

none_some : {X : Type 0} (x : X) → None ≡ Some x → ⊥
none_some x h = cc

-- where the flag is set there is no step, else the one
step_of : {X : Type 0} (v : Bool) (x y : X) → (if v then None else Some x) ≡ Some y → (v ≡ false) × (y ≡ x)
step_of true x y h = absurd (none_some y h)
step_of false x y h = (refl, sym (same_Some _ _ h))

does_it : {X : Type 0} (v : Bool) (x : X) → v ≡ false → (if v then None else Some x) ≡ Some x
does_it v x h = ap (λ (b : Bool). if b then None else Some x) h

look : (e : Bool) → alike e e ≡ true
look true = refl
look false = refl

left : (e p v : Bool) → e ≢ p → (if alike e p then true else v) ≡ v
left true true v d = absurd (d refl)
left false false v d = absurd (d refl)
left true false v d = refl
left false true v d = refl

both_ways : (e f p v : Bool)
    → (if alike e p then true else (if alike f p then true else v))
    ≡ (if alike f p then true else (if alike e p then true else v))
both_ways true true p v = refl
both_ways false false p v = refl
both_ways true false true v = refl
both_ways true false false v = refl
both_ways false true true v = refl
both_ways false true false v = refl

was : (e : Bool) (s s' : Bool → Bool) → Does setters s e s' → (s e ≡ false) × (s' ≡ changed flags e s)
was e s s' d =
    let now : Bool × (Bool → Bool) = (e, changed flags e s) in
    let then' : Bool × (Bool → Bool) = (e, s') in
    let h : (s e ≡ false) × (then' ≡ now) = step_of (s e) now then' d in
    (h.0, ap (λ (x : Bool × (Bool → Bool)). x.1) h.1)

framed : IsFramed setters flags none_set
framed =
    record {
      changes = λ s s' e r d. (was e s s' d).1;
      repeats = λ s s' t e r r' d same. does_it (t e) (e, changed flags e t) (same e (look e) ∙ (was e s s' d).0);
    }

machine : IsFramedMachine setters flags none_set
machine =
    record {
      is_same = alike_same;
      not_same = alike_not;
      framed = framed;
      quiet = λ e f d c. record {
        first = λ p v h. left e p v (λ q. d (q ∙ sym (alike_same f p h)));
        second = λ p v h. left f p v (λ q. d (alike_same e p h ∙ sym q));
        commute = λ p v. both_ways e f p v;
      };
      stays = λ s s1 s2 e f r d d1 d2 stops. record {
        label = f;
        after = changed flags f s1;
        same = refl;
        does = does_it (s1 f) (f, changed flags f s1)
            (ap (λ (x : Bool → Bool). x f) (was e s s1 d1).1
            ∙ left e f (s f) d
            ∙ (was f s s2 d2).0);
      };
      waits = λ s s1 s2 s3 e f g r d d1 d2 stops q d3 leads. true≢false (sym leads);
    }

over : IsOver setters both_set
over true s' d = none_some (true, s') d
over false s' d = none_some (false, s') d

pub setters_are_certified : SettersAreCertified
setters_are_certified =
    record {
      lawful = lawful setters flags none_set machine;
      run = (changed flags false none_set, refl, (both_set, refl, refl));
      over = over;
      race_free = (inr (refl, tt), (tt, tt));
      takes_nothing = (refl, (refl, tt));
    }
