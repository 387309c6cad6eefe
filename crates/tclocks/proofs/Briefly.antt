-- Accesses that are kept without a list.
use Rattle.std.proofs.Common.{◌≡◌, ℕ, ◌<◌, ◌⊎◌, inl, inr, true, false, List, [], ◌∷◌, ◌++◌, ap, refl, sym, subst}
use Rattle.std.proofs.Common.{◌∙◌, arith, None, Some, Option, IfSome, Contains, Bool, true≢false}
use Rattle.std.proofs.lemmas.List.Elements.{Contains-append_left, Contains-append_right, Contains-append_cases}
use Rattle.tclocks.specs.declared.mode.Mode.{Mode}
use Rattle.tclocks.specs.declared.mode.Mode.TheVariants.{Looks, Claims, Puts}
use Rattle.tclocks.specs.declared.step.Step.{Step}
use Rattle.tclocks.specs.declared.step.Access.{Access}
use Rattle.tclocks.specs.declared.kept.Kept.{Kept}
use Rattle.tclocks.specs.declared.kept.Kept.TheVariants.{OfOne, UpToTwo, TwoChanges, PutAndChange, InList}
use Rattle.tclocks.specs.Modes.{covers}
use Rattle.tclocks.specs.Places.{races, first_race, NotesAccess, IsReplaced}
use Rattle.tclocks.specs.Kept.{access_by, accesses_of, look_mode, some_of, two_by, two_of, unless_none, IsBrief}
use Rattle.tclocks.specs.Kept.{IsBriefly, IsNotedBriefly, ReplacesAll}
use Rattle.tclocks.proofs.Lists.{contains-cons, contains-first}
use Rattle.tclocks.proofs.ModeLemmas.{covers-self}
use Rattle.tclocks.proofs.Noting.{none-found, calm, own-known, in-some, some-in}

pub replaces-append : (clock : List ℕ) (new : Access) (xs ys : List Access) → ReplacesAll clock new xs
    → ReplacesAll clock new ys → ReplacesAll clock new (xs ++ ys)
replaces-append clock new xs ys h g x has =
    elim (Contains-append_cases xs ys x has) as (λ _. IsReplaced clock new x) [ inl a ↦ h x a | inr b ↦ g x b ]

-- two accesses without a list
pub briefly-two : (kept : Kept) (x y : Access) → two_of kept ≡ Some (x, y)
    → IsBriefly (unless_none x ++ unless_none y) kept
briefly-two (OfOne claims agent put look) x y is = record { brief = tt; same = λ lists. ap some_of is }
briefly-two (UpToTwo ways agents numbers) x y is = record { brief = tt; same = λ lists. ap some_of is }
briefly-two (TwoChanges kind agents numbers) x y is = record { brief = tt; same = λ lists. ap some_of is }
briefly-two (PutAndChange kind agents numbers) x y is = record { brief = tt; same = λ lists. ap some_of is }
briefly-two (InList list) x y is = absurd cc

-- what has no two is in a list
pub none-brief : (kept : Kept) → two_of kept ≡ None → IsBrief kept → ⊥
none-brief (OfOne claims agent put look) is brief = cc
none-brief (UpToTwo ways agents numbers) is brief = cc
none-brief (TwoChanges kind agents numbers) is brief = cc
none-brief (PutAndChange kind agents numbers) is brief = cc
none-brief (InList list) is brief = brief

-- an access alone, where it replaces all others
pub alone-noted : (clock : List ℕ) (new : Access) (before after : Kept) → IsBriefly (new ∷ []) after
    → ((lists : List (List Access)) → ReplacesAll clock new (accesses_of lists before))
    → IsNotedBriefly clock new before after
alone-noted clock new before after is replaced = record {
  permitted = λ lists. none-found (races new.step.agent clock new.mode) (accesses_of lists before)
      (λ x has. calm new.step.agent clock new.mode x (replaced lists x has).known);
  noted = λ lists. subst (λ (list : List Access). NotesAccess clock new (accesses_of lists before) list)
      (sym (is.same lists)) record {
        noted = contains-first new [];
        kept = λ x has. inr (replaced lists x has);
        only = λ x has. elim (contains-cons new [] x has) as (λ _. (x ≡ new) ⊎ Contains (accesses_of lists before) x) [
          | inl e ↦ inl (sym e)
          | inr fail ↦ absurd (omega (arith, fail.1))
        ];
      };
  brief = is.brief;
}

-- a part of what is kept, before and after an access
pub record IsPart (clock : List ℕ) (new : Access) (before after : List Access) : Type 0 where
  pub kept : (x : Access) → Contains before x → Contains after x ⊎ IsReplaced clock new x
  pub only : (x : Access) → Contains after x → (x ≡ new) ⊎ Contains before x

pub part-noted : (clock : List ℕ) (new : Access) (before after : List Access) → IsPart clock new before after
    → Contains after new → NotesAccess clock new before after
part-noted clock new before after part has = record { noted = has; kept = part.kept; only = part.only }

pub part-same : (clock : List ℕ) (new : Access) (list : List Access) → IsPart clock new list list
part-same clock new list = record { kept = λ x has. inl has; only = λ x has. inr has }

pub part-append : (clock : List ℕ) (new : Access) (xs ys xs' ys' : List Access) → IsPart clock new xs xs'
    → IsPart clock new ys ys' → IsPart clock new (xs ++ ys) (xs' ++ ys')
part-append clock new xs ys xs' ys' first second = record {
  kept = λ x has. elim (Contains-append_cases xs ys x has) as
      (λ _. Contains (xs' ++ ys') x ⊎ IsReplaced clock new x) [
        | inl h ↦ elim (first.kept x h) as (λ _. Contains (xs' ++ ys') x ⊎ IsReplaced clock new x) [
          | inl still ↦ inl (Contains-append_left xs' ys' x still)
          | inr gone ↦ inr gone
        ]
        | inr h ↦ elim (second.kept x h) as (λ _. Contains (xs' ++ ys') x ⊎ IsReplaced clock new x) [
          | inl still ↦ inl (Contains-append_right xs' ys' x still)
          | inr gone ↦ inr gone
        ]
      ];
  only = λ x has. elim (Contains-append_cases xs' ys' x has) as (λ _. (x ≡ new) ⊎ Contains (xs ++ ys) x) [
    | inl h ↦ elim (first.only x h) as (λ _. (x ≡ new) ⊎ Contains (xs ++ ys) x) [
      | inl e ↦ inl e
      | inr was ↦ inr (Contains-append_left xs ys x was)
    ]
    | inr h ↦ elim (second.only x h) as (λ _. (x ≡ new) ⊎ Contains (xs ++ ys) x) [
      | inl e ↦ inl e
      | inr was ↦ inr (Contains-append_right xs ys x was)
    ]
  ];
}

-- an access of the agent is replaced by a later one that covers it
own-replaced : (clock : List ℕ) (new old : Access) → old.step.agent ≡ new.step.agent → covers new.mode old.mode ≡ true
    → (x : Access) → Contains (unless_none old) x → IsReplaced clock new x
own-replaced clock new old own over x has =
    subst (λ (y : Access). IsReplaced clock new y) (sym (in-some old x has)) record {
      covered = over;
      known = own-known new.step.agent clock old.step own;
    }

pub part-renewed : (clock : List ℕ) (new old : Access) → old.step.agent ≡ new.step.agent
    → covers new.mode old.mode ≡ true → IsPart clock new (unless_none old) (unless_none new)
part-renewed clock new old own over = record {
  kept = λ x has. inr (own-replaced clock new old own over x has);
  only = λ x has. inl (in-some new x has);
}

pub part-dropped : (clock : List ℕ) (new old : Access) → old.step.agent ≡ new.step.agent
    → covers new.mode old.mode ≡ true → IsPart clock new (unless_none old) []
part-dropped clock new old own over = record {
  kept = λ x has. inr (own-replaced clock new old own over x has);
  only = λ x has. absurd (omega (arith, has.1));
}

-- an access covers one of its mode
covers-same : (mode mode' : Mode) → mode ≡ mode' → covers mode mode' ≡ true
covers-same mode mode' e = subst (λ (k : Mode). covers mode k ≡ true) e (covers-self mode)

-- none of these races
abbrev pub AreCalm : List ℕ → Access → List Access → Type 0
AreCalm clock new list = (x : Access) → Contains list x → races new.step.agent clock new.mode x ≡ false

pub calm-append : (clock : List ℕ) (new : Access) (xs ys : List Access) → AreCalm clock new xs → AreCalm clock new ys
    → AreCalm clock new (xs ++ ys)
calm-append clock new xs ys h g x has =
    elim (Contains-append_cases xs ys x has) as (λ _. races new.step.agent clock new.mode x ≡ false) [
      | inl a ↦ h x a
      | inr b ↦ g x b
    ]

pub calm-some : (clock : List ℕ) (new access : Access) → races new.step.agent clock new.mode access ≡ false
    → AreCalm clock new (unless_none access)
calm-some clock new access h x has =
    subst (λ (y : Access). races new.step.agent clock new.mode y ≡ false) (sym (in-some access x has)) h

pub calm-own : (clock : List ℕ) (new access : Access) → access.step.agent ≡ new.step.agent
    → AreCalm clock new (unless_none access)
calm-own clock new access own =
    calm-some clock new access (calm new.step.agent clock new.mode access
    (own-known new.step.agent clock access.step own))

calm-none : (clock : List ℕ) (new : Access) (xs : List Access) → AreCalm clock new xs
    → first_race new.step.agent clock new.mode xs ≡ None
calm-none clock new xs h = none-found (races new.step.agent clock new.mode) xs h

-- an access noted among two, of which it races with neither
pub two-noted : (clock : List ℕ) (new : Access) (before after : Kept) (x y x' y' : Access) → two_of before ≡ Some (x, y)
    → two_of after ≡ Some (x', y') → AreCalm clock new (unless_none x) → AreCalm clock new (unless_none y)
    → IsPart clock new (unless_none x) (unless_none x') → IsPart clock new (unless_none y) (unless_none y')
    → Contains (unless_none x' ++ unless_none y') new → IsNotedBriefly clock new before after
two-noted clock new before after x y x' y' was is calm-x calm-y part-x part-y has =
    let old : IsBriefly (unless_none x ++ unless_none y) before = briefly-two before x y was in
    let now : IsBriefly (unless_none x' ++ unless_none y') after = briefly-two after x' y' is in
    record {
      permitted = λ lists. ap (λ (list : List Access). first_race new.step.agent clock new.mode list) (old.same lists)
          ∙ calm-none clock new (unless_none x ++ unless_none y)
          (calm-append clock new (unless_none x) (unless_none y) calm-x calm-y);
      noted = λ lists. subst (λ (list : List Access). NotesAccess clock new list (accesses_of lists after))
          (sym (old.same lists))
          (subst (λ (list : List Access). NotesAccess clock new (unless_none x ++ unless_none y) list)
          (sym (now.same lists))
          (part-noted clock new (unless_none x ++ unless_none y) (unless_none x' ++ unless_none y')
          (part-append clock new (unless_none x) (unless_none y) (unless_none x') (unless_none y') part-x part-y) has));
      brief = now.brief;
    }

-- one of two accesses again
pub first-again : (clock : List ℕ) (new : Access) (before after : Kept) (x y : Access) → 0 < new.step.number
    → two_of before ≡ Some (x, y) → two_of after ≡ Some (new, y) → new.mode ≡ x.mode
    → new.step.agent ≡ x.step.agent → races new.step.agent clock new.mode y ≡ false
    → IsNotedBriefly clock new before after
first-again clock new before after x y some was is same own h =
    two-noted clock new before after x y new y was is (calm-own clock new x (sym own)) (calm-some clock new y h)
    (part-renewed clock new x (sym own) (covers-same new.mode x.mode same)) (part-same clock new (unless_none y))
    (Contains-append_left (unless_none new) (unless_none y) new (some-in new some))

pub second-again : (clock : List ℕ) (new : Access) (before after : Kept) (x y : Access) → 0 < new.step.number
    → two_of before ≡ Some (x, y) → two_of after ≡ Some (x, new) → new.mode ≡ y.mode
    → new.step.agent ≡ y.step.agent → races new.step.agent clock new.mode x ≡ false
    → IsNotedBriefly clock new before after
second-again clock new before after x y some was is same own h =
    two-noted clock new before after x y x new was is (calm-some clock new x h) (calm-own clock new y (sym own))
    (part-same clock new (unless_none x)) (part-renewed clock new y (sym own) (covers-same new.mode y.mode same))
    (Contains-append_right (unless_none x) (unless_none new) new (some-in new some))

-- the accesses of one agent, with one more
pub own-look : (clock : List ℕ) (claims : Bool) (agent put look n : ℕ) → 0 < n → claims ≡ false
    → IsNotedBriefly clock (access_by Looks agent n) (OfOne claims agent put look) (OfOne claims agent put n)
own-look clock true agent put look n some e = absurd (true≢false e)
own-look clock false agent put look n some e =
    second-again clock (access_by Looks agent n) (OfOne false agent put look) (OfOne false agent put n)
    (access_by Puts agent put) (access_by Looks agent look) some refl refl refl refl
    (calm agent clock Looks (access_by Puts agent put)
    (own-known agent clock (record { agent = agent; number = put }) refl))

claim-covers : (claims : Bool) → covers Claims (look_mode claims) ≡ true
claim-covers true = refl
claim-covers false = refl

pub own-claim : (clock : List ℕ) (claims : Bool) (agent put look n : ℕ) → 0 < n
    → IsNotedBriefly clock (access_by Claims agent n) (OfOne claims agent put look) (OfOne true agent put n)
own-claim clock claims agent put look n some =
    let new : Access = access_by Claims agent n in
    let puts : Access = access_by Puts agent put in
    let looks : Access = access_by (look_mode claims) agent look in
    two-noted clock new (OfOne claims agent put look) (OfOne true agent put n) puts looks puts new refl refl
    (calm-own clock new puts refl) (calm-own clock new looks refl) (part-same clock new (unless_none puts))
    (part-renewed clock new looks refl (claim-covers claims))
    (Contains-append_right (unless_none puts) (unless_none new) new (some-in new some))

pub own-put : (clock : List ℕ) (claims : Bool) (agent put look n : ℕ) → 0 < n
    → IsNotedBriefly clock (access_by Puts agent n) (OfOne claims agent put look) (OfOne false agent n 0)
own-put clock claims agent put look n some =
    let new : Access = access_by Puts agent n in
    let puts : Access = access_by Puts agent put in
    let looks : Access = access_by (look_mode claims) agent look in
    two-noted clock new (OfOne claims agent put look) (OfOne false agent n 0) puts looks new (access_by Looks agent 0)
    refl refl (calm-own clock new puts refl) (calm-own clock new looks refl) (part-renewed clock new puts refl refl)
    (part-dropped clock new looks refl refl)
    (Contains-append_left (unless_none new) [] new (some-in new some))

pub access-same : (mode mode' : Mode) (agent : ℕ) (step : Step) → mode ≡ mode' → agent ≡ step.agent
    → access_by mode' agent step.number ≡ record { mode = mode; step = step }
access-same mode mode' agent step e f =
    ap (λ (k : Mode). access_by k agent step.number) (sym e) ∙ ap (λ (a : ℕ). access_by mode a step.number) f

-- two accesses by steps of other numbers
renumbered : (before after : Kept) (x y : Access) (m n : ℕ) → two_of before ≡ Some (x, y)
    → IfSome (two_of before) (λ two. two_of after
    ≡ Some (two_by (two.0.mode, two.1.mode) (two.0.step.agent, two.1.step.agent) (m, n)))
    → two_of after ≡ Some (two_by (x.mode, y.mode) (x.step.agent, y.step.agent) (m, n))
renumbered before after x y m n was h =
    subst (λ (o : Option (Access × Access)). IfSome o (λ two. two_of after
    ≡ Some (two_by (two.0.mode, two.1.mode) (two.0.step.agent, two.1.step.agent) (m, n)))) was h

pub first-renumbered : (before after : Kept) (new x y : Access) → new.mode ≡ x.mode → new.step.agent ≡ x.step.agent
    → two_of before ≡ Some (x, y)
    → IfSome (two_of before) (λ two. two_of after ≡ Some (two_by (two.0.mode, two.1.mode)
    (two.0.step.agent, two.1.step.agent) (new.step.number, y.step.number)))
    → two_of after ≡ Some (new, y)
first-renumbered before after new x y same own was h =
    renumbered before after x y new.step.number y.step.number was h
    ∙ ap (λ (z : Access). Some (z, y)) (access-same new.mode x.mode x.step.agent new.step same (sym own))

pub second-renumbered : (before after : Kept) (new x y : Access) → new.mode ≡ y.mode → new.step.agent ≡ y.step.agent
    → two_of before ≡ Some (x, y)
    → IfSome (two_of before) (λ two. two_of after ≡ Some (two_by (two.0.mode, two.1.mode)
    (two.0.step.agent, two.1.step.agent) (x.step.number, new.step.number)))
    → two_of after ≡ Some (x, new)
second-renumbered before after new x y same own was h =
    renumbered before after x y x.step.number new.step.number was h
    ∙ ap (λ (z : Access). Some (x, z)) (access-same new.mode y.mode y.step.agent new.step same (sym own))

-- the same of equal accesses and of equal kept ones
pub noted-same : (clock : List ℕ) (new new' : Access) (before before' after : Kept) → new ≡ new' → before' ≡ before
    → IsNotedBriefly clock new before after → IsNotedBriefly clock new' before' after
noted-same clock new new' before before' after e f h =
    subst (λ (x : Access). IsNotedBriefly clock x before' after) e
    (subst (λ (k : Kept). IsNotedBriefly clock new k after) (sym f) h)

pub some-more : {A : Type 0} (o : Option A) (P Q : A → Type 0) → ((x : A) → P x → Q x) → IfSome o P → IfSome o Q
some-more None P Q f h = tt
some-more (Some x) P Q f h = f x h
