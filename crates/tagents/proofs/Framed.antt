-- Machines whose steps keep to their places are lawful.
use Rattle.std.proofs.Common.{◌≡◌, ◌≢◌, sym, ap, ◌∙◌, subst, true, inl, inr}
use Rattle.tagents.specs.Agents.{Agents, Does}
use Rattle.tagents.specs.Certificates.{IsReached, Meet, IsLawful}
use Rattle.tagents.specs.Frames.{Frame, changed, AreQuiet, IsFramedMachine, FramedMachinesAreLawful}
use Rattle.tagents.proofs.Fronted.{test, reached_step, one_step}

pub everywhere : {A B : Type 0} {f g : A → B} → ((x : A) → f x ≡ g x) → f ≡ g
everywhere h = λ i x. h x i

module _ {Place Value Agent Label : Type 0} (m : Agents (Place → Value) Agent Label) (frame : Frame Place Value Label)
    (start : Place → Value) (k : IsFramedMachine m frame start) where
  -- a step after another one that leaves alone what it looks at
  again : (s s1 s2 : Place → Value) (e f : Label) → IsReached m start s → IsReached m start s1 → Does m s e s1
      → Does m s f s2 → AreQuiet m frame start e f → Does m s1 f (changed frame f s1)
  again s s1 s2 e f r r1 d1 d2 q =
      k.framed.repeats s s2 s1 f r r1 d2
      (λ p h. ap (λ (x : Place → Value). x p) (k.framed.changes s s1 e r d1) ∙ q.first p (s p) h)

  turned : (e f : Label) → AreQuiet m frame start e f → AreQuiet m frame start f e
  turned e f q =
      record { first = q.second; second = q.first; commute = λ p v. sym (q.commute p v) }

  meet : (s s1 s2 : Place → Value) (e f : Label) → IsReached m start s → IsReached m start s1 → IsReached m start s2
      → Does m s e s1 → Does m s f s2 → AreQuiet m frame start e f → Meet m s1 s2 e f
  meet s s1 s2 e f r r1 r2 d1 d2 q =
      let one : changed frame f s1 ≡ changed frame f (changed frame e s) =
      ap (changed frame f) (k.framed.changes s s1 e r d1) in
      let two : changed frame e s2 ≡ changed frame e (changed frame f s) =
      ap (changed frame e) (k.framed.changes s s2 f r d2) in
      let same : changed frame e s2 ≡ changed frame f s1 =
      two ∙ everywhere (λ p. q.commute p (s p)) ∙ sym one in
      record {
        both = changed frame f s1;
        first = again s s1 s2 e f r r1 d1 d2 q;
        second = subst (λ (x : Place → Value). Does m s2 e x) same (again s s2 s1 f e r r2 d2 d1 (turned e f q));
      }

  -- a step that clashes goes on clashing: if the one that comes after it did not, it would be the same one
  goes_on : (s s1 s2 s3 : Place → Value) (e f g : Label) → IsReached m start s → IsReached m start s1
      → m.agent_of e ≢ m.agent_of f
      → Does m s e s1 → Does m s f s2 → m.clash e f ≡ true → m.agent_of g ≡ m.agent_of f → Does m s1 g s3
      → m.clash e g ≡ true
  goes_on s s1 s2 s3 e f g r r1 d d1 d2 c q d3 =
      elim (test (m.clash e g)) as (λ _. m.clash e g ≡ true) [
        | inl t ↦ t
        | inr n ↦ (let quiet : AreQuiet m frame start e g = k.quiet e g (λ x. d (x ∙ q)) n in
            let before : Does m s g (changed frame g s) =
            k.framed.repeats s1 s3 s g r1 r d3
            (λ p h. sym (ap (λ (x : Place → Value). x p) (k.framed.changes s s1 e r d1) ∙ quiet.first p (s p) h)) in
            let one : (f ≡ g) × (s2 ≡ changed frame g s) =
            one_step m s s2 (changed frame g s) f g (sym q) d2 before in
            ap (m.clash e) (sym one.0) ∙ c)
      ]

  pub lawful : IsLawful m start
  lawful =
      record {
        is_same = k.is_same;
        not_same = k.not_same;
        commutes = λ s s1 s2 e f r d d1 d2 stops c.
            meet s s1 s2 e f r (reached_step m start s s1 e r d1) (reached_step m start s s2 f r d2) d1 d2
            (k.quiet e f d c);
        stays = k.stays;
        clashes = λ s s1 s2 s3 e f g r d d1 d2 stops c q d3.
            goes_on s s1 s2 s3 e f g r (reached_step m start s s1 e r d1) d d1 d2 c q d3;
        waits = k.waits;
      }

pub framed_machines_are_lawful : (Place Value Agent Label : Type 0) → FramedMachinesAreLawful Place Value Agent Label
framed_machines_are_lawful Place Value Agent Label m frame start k = lawful m frame start k
