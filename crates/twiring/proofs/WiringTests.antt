-- What a part of a wiring stands for, by the tests of the definition of a wiring.
use Rattle.std.proofs.Common.{◌≡◌, ℕ, pos, negsuc, ◌^◌, ◌==◌, nat_lt, refl, sym, ap, ap₂, ◌∙◌, Bool, true, false, not}
use Rattle.std.proofs.Common.{◌||◌, ◌&&◌, List, [], ◌∷◌, ◌++◌, map, Option, Some, None, Ok, Err, is_none, unwrap_or}
use Rattle.std.proofs.Common.{codes, bytes_eq, append_assoc, append-nil, if◌then◌else◌}
use Rattle.std.specs.List.{list_any, list_all}
use mathlib.Core.Bool.{or_assoc, or-false, or-true}
use Rattle.toml.specs.Data.{Data, string, integer, array, table, Items, no_items, item, Members}
use Rattle.tplan.specs.declared.plan.End.{End}
use Rattle.tplan.specs.declared.event.PacketKind.TheVariants as kind
use Rattle.tplan.specs.declared.wiring.WiringFault.TheVariants.{UnknownKey, MissingKey, WrongType, BadVersion}
use Rattle.tplan.specs.declared.wiring.WiringFault.TheVariants.{BadNumber, BadMessage, BadKind}
use Rattle.tword.specs.declared.kind.Kind.TheVariants.{One, Two}
use Rattle.twiring.specs.Messages.{message_of}
use Rattle.twiring.specs.Wirings.{Names, has_unknown, tables_in, tables_of, is_integer, is_text, is_end, is_kind}
use Rattle.twiring.specs.Wirings.{items_in, items_of, is_texts, are_tables, is_tables, fails, is_bad_number, is_version}
use Rattle.twiring.specs.Wirings.{is_no_message, is_node_kind, number_of, text_of, end_of, kind_of, node_kind_of}
use Rattle.twiring.specs.Wirings.{message_at}
use Rattle.twiring.specs.WiringParts.{Reading, both, made, known, value_or, number, number_in, text_in, end_in, kind_in}
use Rattle.twiring.specs.WiringParts.{node_kind, node_kind_in, message, message_in, version, version_in, one_more}
use Rattle.twiring.specs.WiringParts.{more_in, table_in, array_in}

-- which tests of a part hold, in the order in which their faults are told
pub record Tests : Type 0 where
  pub unknown : Bool
  pub missing : Bool
  pub wrong : Bool
  pub version : Bool
  pub number : Bool
  pub message : Bool
  pub kind : Bool

-- no test holds
abbrev pub passed : Tests
passed =
    record {
      unknown = false;
      missing = false;
      wrong = false;
      version = false;
      number = false;
      message = false;
      kind = false;
    }

-- the tests of both parts
abbrev pub either : Tests → Tests → Tests
either s t =
    record {
      unknown = s.unknown || t.unknown;
      missing = s.missing || t.missing;
      wrong = s.wrong || t.wrong;
      version = s.version || t.version;
      number = s.number || t.number;
      message = s.message || t.message;
      kind = s.kind || t.kind;
    }

-- the first test that holds names the fault; where none holds, there is a value
abbrev judge : {A : Type 0} → Bool → Bool → Bool → Bool → Bool → Bool → Bool → A → Reading A
judge unknown missing wrong version number message kind x =
    if unknown then Err UnknownKey else if missing then Err MissingKey else if wrong then Err WrongType else if version
    then Err BadVersion
    else if number then Err BadNumber else if message then Err BadMessage else if kind then Err BadKind else Ok x

unfoldable pub judged : {A : Type 0} → Tests → A → Reading A
judged t x = judge t.unknown t.missing t.wrong t.version t.number t.message t.kind x

both-judge : {A B : Type 0} (u m w v n g i p q r s t k j : Bool) (x : A) (y : B)
    → both (judge u m w v n g i x) (judge p q r s t k j y)
    ≡ judge (u || p) (m || q) (w || r) (v || s) (n || t) (g || k) (i || j) (x, y)
both-judge true m w v n g i false false false false false false false x y = refl
both-judge false true w v n g i false false false false false false false x y = refl
both-judge false false true v n g i false false false false false false false x y = refl
both-judge false false false true n g i false false false false false false false x y = refl
both-judge false false false false true g i false false false false false false false x y = refl
both-judge false false false false false true i false false false false false false false x y = refl
both-judge false false false false false false true false false false false false false false x y = refl
both-judge false false false false false false false false false false false false false false x y = refl
both-judge _ _ _ _ _ _ _ _ _ _ _ _ _ _ x y = refl

pub both-judged : {A B : Type 0} (s t : Tests) (x : A) (y : B)
    → both (judged s x) (judged t y) ≡ judged (either s t) (x, y)
unfolding judged
both-judged s t x y =
    both-judge s.unknown s.missing s.wrong s.version s.number s.message s.kind t.unknown t.missing t.wrong t.version
    t.number t.message t.kind x y

made-judge : {A B : Type 0} (f : A → B) (u m w v n g i : Bool) (x : A)
    → made f (judge u m w v n g i x) ≡ judge u m w v n g i (f x)
made-judge f false false false false false false false x = refl
made-judge f _ _ _ _ _ _ _ x = refl

pub made-judged : {A B : Type 0} (f : A → B) (t : Tests) (x : A) → made f (judged t x) ≡ judged t (f x)
unfolding judged
made-judged f t x = made-judge f t.unknown t.missing t.wrong t.version t.number t.message t.kind x

pub known-judged : {A : Type 0} (names : Names) (t : Members) (s : Tests) (x : A)
    → known names t (judged s x) ≡ judged (record s { unknown = has_unknown names t || s.unknown }) x
unfolding judged
known-judged names t s x = by (has_unknown names t)
  where
    by : (b : Bool) → (if b then Err UnknownKey else judged s x) ≡ judged (record s { unknown = b || s.unknown }) x
    by true = refl
    by false = refl

pub same_judged : {A : Type 0} (s t : Tests) (x : A) → s.unknown ≡ t.unknown → s.missing ≡ t.missing
    → s.wrong ≡ t.wrong → s.version ≡ t.version → s.number ≡ t.number → s.message ≡ t.message → s.kind ≡ t.kind
    → judged s x ≡ judged t x
unfolding judged
same_judged s t x a b c d e f g =
    ap (λ u. judge u s.missing s.wrong s.version s.number s.message s.kind x) a
    ∙ ap (λ m. judge t.unknown m s.wrong s.version s.number s.message s.kind x) b
    ∙ ap (λ w. judge t.unknown t.missing w s.version s.number s.message s.kind x) c
    ∙ ap (λ v. judge t.unknown t.missing t.wrong v s.number s.message s.kind x) d
    ∙ ap (λ n. judge t.unknown t.missing t.wrong t.version n s.message s.kind x) e
    ∙ ap (λ m. judge t.unknown t.missing t.wrong t.version t.number m s.kind x) f
    ∙ ap (λ k. judge t.unknown t.missing t.wrong t.version t.number t.message k x) g

-- a value that has to be there, by the tests of a value
pub required-judged : {A : Type 0} (f : Data → Reading A) (wrong version number message : Option Data → Bool)
    (value : Option Data → A)
    → ((d : Data) → f d ≡ judged (record passed {
      wrong = wrong (Some d);
      version = version (Some d);
      number = number (Some d);
      message = message (Some d);
    }) (value (Some d)))
    → (o : Option Data)
    → value_or (Err MissingKey) f o ≡ judged (record passed {
      missing = is_none o;
      wrong = wrong o;
      version = version o;
      number = number o;
      message = message o;
    }) (value o)
unfolding judged
required-judged f wrong version number message value h None = refl
required-judged f wrong version number message value h (Some d) = h d

abbrev pub never : Option Data → Bool
never o = false

abbrev pub is_good_number : Data → Bool
is_good_number d = not (is_bad_number d)

-- numbers
number-judged : (b : Bool) (n : ℕ)
    → (if b then Ok n else Err BadNumber) ≡ judged (record passed { number = not (not (not b)) }) n
unfolding judged
number-judged true n = refl
number-judged false n = refl

pub number_in-judged : (otherwise : ℕ) (d : Data)
    → number_in d ≡ judged (record passed { wrong = not (is_integer d); number = not (is_good_number d) })
    (number_of (Some d) otherwise)
unfolding judged
number_in-judged k (integer (pos n)) = number-judged (nat_lt n (2 ^ 32)) n
number_in-judged k (integer (negsuc n)) = refl
number_in-judged k _ = refl

pub timeslice-judged : (k : ℕ) (o : Option Data)
    → value_or (Ok k) number_in o
    ≡ judged (record passed { wrong = fails is_integer o; number = fails is_good_number o }) (number_of o k)
unfolding judged
timeslice-judged k None = refl
timeslice-judged k (Some d) = number_in-judged k d

-- texts
pub text_in-judged : (d : Data)
    → text_in d ≡ judged (record passed { wrong = not (is_text d) }) (text_of (Some d))
unfolding judged
text_in-judged (string s) = refl
text_in-judged _ = refl

-- kinds of packets
kind-judged : (b ack : Bool) → (if ack then Ok kind.Ack else if b then Ok kind.Data else Err WrongType)
    ≡ judged (record passed { wrong = not (b || ack) }) (if ack then kind.Ack else kind.Data)
unfolding judged
kind-judged true true = refl
kind-judged false false = refl
kind-judged _ _ = refl

pub kind_in-judged : (d : Data)
    → kind_in d ≡ judged (record passed { wrong = not (is_kind d) }) (kind_of (Some d))
unfolding judged
kind_in-judged (string s) = kind-judged (bytes_eq s (codes "data")) (bytes_eq s (codes "ack"))
kind_in-judged _ = refl

-- kinds of nodes
node_kind-listed : (two one : Bool)
    → (if two then Ok Two else if one then Ok One else Err BadKind)
    ≡ judged (record passed { kind = not (one || two) }) (if two then Two else One)
unfolding judged
node_kind-listed true true = refl
node_kind-listed false false = refl
node_kind-listed _ _ = refl

node_kind-judged : (b : Bool) (n : ℕ)
    → node_kind (if b then Ok n else Err BadNumber)
    ≡ judged (record passed { number = not (not (not b)); kind = not (n == 1 || n == 2) })
    (if n == 2 then Two else One)
unfolding judged
node_kind-judged true n = node_kind-listed (n == 2) (n == 1)
node_kind-judged false n = refl

node_kind_in-judged : (d : Data)
    → node_kind_in d
    ≡ judged (record passed {
      wrong = not (is_integer d);
      number = not (is_good_number d);
      kind = not (is_node_kind d);
    }) (node_kind_of (Some d))
unfolding judged
node_kind_in-judged (integer (pos n)) = node_kind-judged (nat_lt n (2 ^ 32)) n
node_kind_in-judged (integer (negsuc n)) = refl
node_kind_in-judged _ = refl

pub node_kind_or_one-judged : (o : Option Data)
    → value_or (Ok One) node_kind_in o
    ≡ judged (record passed {
      wrong = fails is_integer o;
      number = fails is_good_number o;
      kind = fails is_node_kind o;
    }) (node_kind_of o)
unfolding judged
node_kind_or_one-judged None = refl
node_kind_or_one-judged (Some d) = node_kind_in-judged d

-- the version
version-judged : (b : Bool) (x : Unit {0})
    → (if b then Ok x else Err BadVersion) ≡ judged (record passed { version = not b }) x
unfolding judged
version-judged true x = refl
version-judged false x = refl

pub version_in-judged : (d : Data)
    → version_in d ≡ judged (record passed { wrong = not (is_integer d); version = not (is_version d) }) tt
unfolding judged
version_in-judged (integer (pos n)) = version-judged (n == 1 || n == 2) tt
version_in-judged (integer (negsuc n)) = refl
version_in-judged _ = refl

-- ends
abbrev end_from : ℕ × ℕ → End
end_from p = record { node = p.0; link = p.1 }

abbrev pair_of : Data → Data → Data
pair_of n l = array (item n (item l no_items))

abbrev pair_tests : Data → Data → Reading End
pair_tests n l =
    judged (record passed {
      wrong = not (is_integer n) || not (is_integer l);
      number = not (is_good_number n) || not (is_good_number l);
    }) (end_from (number_of (Some n) 0, number_of (Some l) 0))

abbrev end_tests : Data → Reading End
end_tests d =
    judged (record passed { wrong = not (is_end d); number = not (is_good_number d) }) (end_of (Some d))

pos_pair : (b c : Bool) (e : End)
    → judged (record passed { number = not (not (not b)) || not (not (not c)) }) e
    ≡ judged (record passed { number = not (not (not b || not c)) }) e
unfolding judged
pos_pair true true e = refl
pos_pair _ _ e = refl

pos_other : (b : Bool) (e f : End)
    → judged (record passed { number = not (not (not b)) || true }) e
    ≡ judged (record passed { number = not (not (not b || true)) }) f
unfolding judged
pos_other true e f = refl
pos_other false e f = refl

pair-tests : (n l : Data) → pair_tests n l ≡ end_tests (pair_of n l)
unfolding judged
pair-tests (integer (pos n)) (integer (pos l)) = pos_pair (nat_lt n (2 ^ 32)) (nat_lt l (2 ^ 32)) (end_from (n, l))
pair-tests (integer (pos n)) (integer (negsuc l)) = pos_other (nat_lt n (2 ^ 32)) (end_from (n, 0)) (end_from (0, 0))
pair-tests (integer (negsuc n)) (integer l) = refl
pair-tests _ _ = refl

one-tests : (n : Data) → Err WrongType ≡ end_tests (array (item n no_items))
unfolding judged
one-tests (integer z) = refl
one-tests _ = refl

many-tests : (n l d : Data) (rest : Items) → Err WrongType ≡ end_tests (array (item n (item l (item d rest))))
unfolding judged
many-tests (integer z) (integer y) d rest = refl
many-tests _ _ d rest = refl

pair-judged : (n l : Data) → end_in (pair_of n l) ≡ end_tests (pair_of n l)
pair-judged n l =
    ap (made end_from) (ap₂ both (number_in-judged 0 n) (number_in-judged 0 l) ∙ both-judged _ _ _ _)
    ∙ made-judged end_from _ _ ∙ pair-tests n l

pub end_in-judged : (d : Data) → end_in d ≡ end_tests d
unfolding judged
end_in-judged (array (item n (item l no_items))) = pair-judged n l
end_in-judged (array (item n no_items)) = one-tests n
end_in-judged (array (item n (item l (item d rest)))) = many-tests n l d rest
end_in-judged _ = refl

-- messages
message-judged : (m : Option (List ℕ))
    → message m ≡ judged (record passed { message = is_none m }) (unwrap_or m [])
unfolding judged
message-judged None = refl
message-judged (Some bytes) = refl

pub message_in-judged : (d : Data)
    → message_in d ≡ judged (record passed { wrong = not (is_text d); message = is_no_message d }) (message_at d)
unfolding judged
message_in-judged (string s) = message-judged (message_of s)
message_in-judged _ = refl

more-messages : (w g : Bool) (xs : List (List ℕ)) (items : Items)
    → more_in message_in (judged (record passed { wrong = w; message = g }) xs) items
    ≡ judged (record passed {
      wrong = w || not (list_all is_text (items_in items));
      message = g || list_any is_no_message (items_in items);
    }) (xs ++ map message_at (items_in items))
more-messages w g xs no_items =
    same_judged _ _ _ refl refl (sym (or-false w)) refl refl (sym (or-false g)) refl
    ∙ ap (judged _) (sym (append-nil xs))
more-messages w g xs (item d rest) =
    let text : Bool = is_text d in
    ap (λ found. more_in message_in found rest)
    (ap (one_more (judged (record passed { wrong = w; message = g }) xs)) (message_in-judged d)
    ∙ ap (made (λ p. p.0 ++ p.1 ∷ [])) (both-judged _ _ _ _) ∙ made-judged (λ p. p.0 ++ p.1 ∷ []) _ _)
    ∙ more-messages (w || not text) (g || is_no_message d) (xs ++ message_at d ∷ []) rest
    ∙ same_judged _ _ _ refl refl (wrong_text w text (list_all is_text (items_in rest))) refl refl
    (or_assoc g (is_no_message d) (list_any is_no_message (items_in rest))) refl
    ∙ ap (judged _) (append_assoc xs (message_at d ∷ []) (map message_at (items_in rest)))
  where
    wrong_text : (w a b : Bool) → ((w || not a) || not b) ≡ (w || not (a && b))
    wrong_text false true b = refl
    wrong_text _ _ b = refl

pub messages_in-judged : (d : Data)
    → array_in message_in d
    ≡ judged (record passed { wrong = not (is_texts d); message = list_any is_no_message (items_of (Some d)) })
    (map message_at (items_of (Some d)))
unfolding judged
messages_in-judged (array items) = more-messages false false [] items
messages_in-judged _ = refl

-- the tests of a part without a version
abbrev pub tested : Bool → Bool → Bool → Bool → Bool → Bool → Tests
tested unknown missing wrong number message kind =
    record {
      unknown = unknown;
      missing = missing;
      wrong = wrong;
      version = false;
      number = number;
      message = message;
      kind = kind;
    }

-- arrays of tables
module _ {A : Type 0} (part : Members → Reading A) (unknown missing wrong number message kind : Members → Bool)
    (value : Members → A)
    (parts : (t : Members)
    → part t ≡ judged (tested (unknown t) (missing t) (wrong t) (number t) (message t) (kind t)) (value t)) where
  abbrev seen : (Members → Bool) → Items → Bool
  seen test items = list_any test (tables_in items)

  -- what was found before an array, and the array
  abbrev more_tests : (u m w n g k : Bool) → List A → Items → Reading (List A)
  more_tests u m w n g k xs items =
      judged
      (tested (u || seen unknown items) (m || seen missing items)
      (w || (not (are_tables items) || seen wrong items)) (n || seen number items) (g || seen message items)
      (k || seen kind items))
      (xs ++ map value (tables_in items))

  one_table : (u m w n g k : Bool) (xs : List A) (t : Members)
      → one_more (judged (tested u m w n g k) xs) (part t)
      ≡ judged
      (tested (u || unknown t) (m || missing t) (w || wrong t) (n || number t) (g || message t) (k || kind t))
      (xs ++ value t ∷ [])
  one_table u m w n g k xs t =
      ap (one_more (judged (tested u m w n g k) xs)) (parts t)
      ∙ ap (made (λ p. p.0 ++ p.1 ∷ [])) (both-judged _ _ _ _)
      ∙ made-judged (λ p. p.0 ++ p.1 ∷ []) _ _

  -- no table
  no_table : (u m w n g k : Bool) (xs : List A)
      → one_more (judged (tested u m w n g k) xs) (Err WrongType) ≡ judged (tested u m true n g k) xs
  unfolding judged
  no_table false false false false false false xs = refl
  no_table _ _ _ _ _ _ xs = refl

  wrong_more : (a b c d : Bool) → ((a || b) || (c || d)) ≡ (a || (c || (b || d)))
  wrong_more false true true d = refl
  wrong_more _ _ _ d = refl

  other-judged : (u m w n g k : Bool) (xs : List A) (rest : Items)
      → more_in (table_in part) (judged (tested u m true n g k) xs) rest ≡ more_tests u m true n g k xs rest
      → more_in (table_in part) (one_more (judged (tested u m w n g k) xs) (Err WrongType)) rest
      ≡ judged
      (tested (u || seen unknown rest) (m || seen missing rest) (w || true) (n || seen number rest)
      (g || seen message rest) (k || seen kind rest))
      (xs ++ map value (tables_in rest))
  other-judged u m w n g k xs rest h =
      ap (λ found. more_in (table_in part) found rest) (no_table u m w n g k xs) ∙ h
      ∙ same_judged _ _ _ refl refl (sym (or-true w)) refl refl refl refl

  more-judged : (u m w n g k : Bool) (xs : List A) (items : Items)
      → more_in (table_in part) (judged (tested u m w n g k) xs) items ≡ more_tests u m w n g k xs items
  more-judged u m w n g k xs no_items =
      same_judged _ _ _ (sym (or-false u)) (sym (or-false m)) (sym (or-false w)) refl (sym (or-false n))
      (sym (or-false g)) (sym (or-false k))
      ∙ ap (judged _) (sym (append-nil xs))
  more-judged u m w n g k xs (item (table t) rest) =
      ap (λ found. more_in (table_in part) found rest) (one_table u m w n g k xs t)
      ∙ more-judged (u || unknown t) (m || missing t) (w || wrong t) (n || number t) (g || message t) (k || kind t)
      (xs ++ value t ∷ []) rest
      ∙ same_judged _ _ _ (or_assoc u (unknown t) (seen unknown rest)) (or_assoc m (missing t) (seen missing rest))
      (wrong_more w (wrong t) (not (are_tables rest)) (seen wrong rest)) refl
      (or_assoc n (number t) (seen number rest)) (or_assoc g (message t) (seen message rest))
      (or_assoc k (kind t) (seen kind rest))
      ∙ ap (judged _) (append_assoc xs (value t ∷ []) (map value (tables_in rest)))
  more-judged u m w n g k xs (item _ rest) =
      other-judged u m w n g k xs rest (more-judged u m true n g k xs rest)

  -- the tables at a key
  pub array-judged : (o : Option Data) → value_or (Ok []) (array_in (table_in part)) o
      ≡ judged
      (tested (list_any unknown (tables_of o)) (list_any missing (tables_of o))
      (fails is_tables o || list_any wrong (tables_of o)) (list_any number (tables_of o))
      (list_any message (tables_of o)) (list_any kind (tables_of o)))
      (map value (tables_of o))
  unfolding judged
  array-judged (Some (array items)) = more-judged false false false false false false [] items
  array-judged _ = refl
