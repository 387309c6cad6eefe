-- What a clock has counted, in a run that is told with its last step first: a chain leads from each step that it knows
-- of.
use Rattle.std.proofs.Common.{◌≡◌, ◌≤◌, List, [], ◌∷◌, ◌++◌, ap, refl, ◌∙◌, subst, sym, reverse}
use Rattle.std.proofs.lemmas.List.{append_assoc, reverse-append}
use Rattle.tagents.specs.Agents.{Agents}
use Rattle.tagents.specs.Clocks.{Entry, labels}
use Rattle.tagents.specs.Chains.{IsChained, ChainsLead}
use Rattle.tagents.specs.Times.{AreTimed}
use Rattle.tagents.proofs.Parts.{turned, no_place}
use Rattle.tagents.proofs.Chained.{first_same, rest_same}
use Rattle.tagents.proofs.Timed.{clocks_tell_chains}

-- the labels of two lists, and of one that is turned
pub labels-append : {Agent Label : Type 0} (xs ys : List (Entry Agent Label))
    → labels (xs ++ ys) ≡ labels xs ++ labels ys
labels-append [] ys = refl
labels-append (x ∷ xs) ys = ap (λ l. x.label ∷ l) (labels-append xs ys)

pub labels-reverse : {Agent Label : Type 0} (xs : List (Entry Agent Label)) → labels (reverse xs) ≡ reverse (labels xs)
labels-reverse [] = refl
labels-reverse (x ∷ xs) =
    ap labels (reverse-append (x ∷ []) xs) ∙ labels-append (reverse xs) (x ∷ [])
    ∙ ap (λ l. l ++ x.label ∷ []) (labels-reverse xs) ∙ sym (reverse-append (x.label ∷ []) (labels xs))

module _ {State Agent Label : Type 0} (m : Agents State Agent Label) where
  -- of a run its beginning
  pub timed_part : (before xs ys : List (Entry Agent Label)) → AreTimed m before (xs ++ ys) → AreTimed m before xs
  timed_part before [] ys timed = tt
  timed_part before (z ∷ xs) ys timed = (timed.0, timed_part (z ∷ before) xs ys timed.1)

  pub timed_before : (since earlier : List (Entry Agent Label)) → AreTimed m [] (reverse (since ++ earlier))
      → AreTimed m [] (reverse earlier)
  timed_before since earlier timed =
      timed_part [] (reverse earlier) (reverse since) (subst (AreTimed m []) (reverse-append since earlier) timed)

  counted_is_chained : (since : List (Entry Agent Label)) (e : Entry Agent Label)
      (before : List (Entry Agent Label)) (f : Entry Agent Label)
      → AreTimed m [] (reverse (f ∷ (since ++ e ∷ before))) → e.place ≤ f.past (m.agent_of e.label)
      → IsChained m e.label (reverse (labels since)) f.label
  counted_is_chained since e before f timed h =
      subst (λ l. IsChained m e.label l f.label) (labels-reverse since)
      (clocks_tell_chains State Agent Label m (reverse before) (reverse since) [] e f
      (subst (AreTimed m []) order timed) h)
    where
      order : reverse (f ∷ (since ++ e ∷ before)) ≡ reverse before ++ e ∷ (reverse since ++ f ∷ [])
      order =
          reverse-append (f ∷ []) (since ++ e ∷ before)
          ∙ ap (λ l. l ++ f ∷ [])
          (reverse-append since (e ∷ before) ∙ sym (turned e before (reverse since)))
          ∙ append_assoc (reverse before) (e ∷ reverse since) (f ∷ [])

-- a step of a run, by its label
pub record IsFound {Agent Label : Type 0} (entries : List (Entry Agent Label)) (between : List Label) (e : Label)
    : Type 0 where
  pub since : List (Entry Agent Label)
  pub entry : Entry Agent Label
  pub before : List (Entry Agent Label)
  pub at : entries ≡ since ++ entry ∷ before
  pub same : labels since ≡ between
  pub label : entry.label ≡ e

pub found : {Agent Label : Type 0} (entries : List (Entry Agent Label)) (between : List Label) (e : Label)
    (before : List Label) → labels entries ≡ between ++ e ∷ before → IsFound entries between e
found [] between e before same = absurd (no_place e between before same)
found (z ∷ zs) [] e before same = record {
  since = [];
  entry = z;
  before = zs;
  at = refl;
  same = refl;
  label = first_same z.label e (labels zs) before same;
}
found (z ∷ zs) (g ∷ between) e before same =
    let more : IsFound zs between e =
    found zs between e before (rest_same z.label g (labels zs) (between ++ e ∷ before) same) in
    record {
      since = z ∷ more.since;
      entry = more.entry;
      before = more.before;
      at = ap (λ l. z ∷ l) more.at;
      same = ap (λ l. z.label ∷ l) more.same
          ∙ ap (λ x. x ∷ between) (first_same z.label g (labels zs) (between ++ e ∷ before) same);
      label = more.label;
    }

-- chains lead to a step from all steps that its clock has counted
pub counted_lead : {State Agent Label : Type 0} (m : Agents State Agent Label) (P : Label → Type 0)
    (f : Entry Agent Label) (earlier : List (Entry Agent Label)) → AreTimed m [] (reverse (f ∷ earlier))
    → ((since : List (Entry Agent Label)) (z : Entry Agent Label) (before : List (Entry Agent Label))
    → earlier ≡ since ++ z ∷ before → P z.label → z.place ≤ f.past (m.agent_of z.label))
    → ChainsLead m P (labels earlier) f.label
counted_lead m P f earlier timed counts e between before same holds =
    let is : IsFound earlier between e = found earlier between e before same in
    subst (λ l. IsChained m e (reverse l) f.label) is.same
    (subst (λ x. IsChained m x (reverse (labels is.since)) f.label) is.label
    (counted_is_chained m is.since is.entry is.before f
    (subst (λ l. AreTimed m [] (reverse (f ∷ l))) is.at timed)
    (counts is.since is.entry is.before is.at (subst P (sym is.label) holds))))
