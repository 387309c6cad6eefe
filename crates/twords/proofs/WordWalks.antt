-- The words in turn: where no step is refused, the rows have values that their rules accept.
use Rattle.std.proofs.Common.{◌≡◌, ◌&&◌, ℕ, Bool, cond, true, false, zero, suc, refl, sym, subst, List, [], ◌∷◌, length}
use Rattle.std.proofs.Common.{drop, Option, Some, None, is_some}
use Rattle.std.specs.Prelude.{encode_utf8, slice_get}
use Rattle.std.specs.List.{find, fold}
use Rattle.std.specs.Option.{option_map_or}
use Rattle.std.specs.Str.{bytes_eq, chars}
use Rattle.clap.specs.Lexer.{long_of, short_of}
use Rattle.clap.specs.Kinds.{Kinds, or_else}
use Rattle.clap.specs.Walk.{Held, Names, Outcome, Rule, Step, Text, Waiting, Walk, after_flag, after_step, arg_by_id}
use Rattle.clap.specs.Walk.{arg_by_index, arg_by_long, arg_by_short, attached_value, bundle, bundle_met, bundle_step}
use Rattle.clap.specs.Walk.{done, flag_met, idle, is_pending, long_met, long_or_other, next, option, option_met}
use Rattle.clap.specs.Walk.{option_word, plain, plain_word, positional, positional_held, reacted, refused, settled}
use Rattle.clap.specs.Walk.{settled_rows, short_met, short_or_plain, subcommand, subcommand_met, subcommand_or_other}
use Rattle.clap.specs.Walk.{takes_several, takes_values, to_positional, trailing, used_by_id, value, waits}
use Rattle.clap.specs.Walk.{walked, walked_from, word_met}
use Rattle.clap.specs.Simple.{Shape}
use Rattle.clap.specs.Faults.{bundle_fault, bundle_step_fault, flag_word_fault, flags_fault, long_fault, option_fault}
use Rattle.clap.specs.Faults.{other_fault, positional_fault, react_fault, settle_fault, short_fault, step_fault}
use Rattle.clap.specs.Faults.{stray_fault, turn_fault, use_fault, walk_fault, word_fault}
use Rattle.clap.specs.declared.error.kind.ErrorKind.TheVariants as kind
use Rattle.twords.proofs.AcceptedRows.{neither, Each, each_found, IsFit, Rows, used_passes}

-- ---- the walk

module _ (c : List Rule) (again : Bool) (fits : Each (IsFit c) c) where
  fit_of : (test : Rule → Bool) (a : Rule) → find test c ≡ Some a → IsFit c a
  fit_of test a e = (each_found (IsFit c) test c a fits e).0

  pub settled_passes : (h : Held) → settle_fault c again h ≡ [] → Rows c h.rows
      → Rows c (settled_rows c h.pending h.rows)
  settled_passes h e rows = go h.pending e
    where
      found : (p : Text × List Text) (o : Option Rule) → arg_by_id c p.0 ≡ o
          → option_map_or (λ a. use_fault again a p.1 h.rows) o [] ≡ []
          → Rows c (used_by_id o p.1 h.rows)
      found p None is f = rows
      found p (Some a) is f = used_passes c again a p.1 h.rows (fit_of _ a is) f rows

      go : (o : Option (Text × List Text))
          → option_map_or (λ p. option_map_or (λ a. use_fault again a p.1 h.rows) (arg_by_id c p.0) []) o [] ≡ []
          → Rows c (settled_rows c o h.rows)
      go None f = rows
      go (Some p) f = found p (arg_by_id c p.0) refl f

  reacted_passes : (a : Rule) (values : List Text) (h : Held) → IsFit c a → react_fault c again a values h ≡ []
      → Rows c h.rows → Rows c (reacted c a values h).rows
  reacted_passes a values h fit e rows =
      let parts = neither (settle_fault c again h) _ e in
      used_passes c again a values _ fit parts.1 (settled_passes h parts.0 rows)

  option_passes : (a : Rule) (v : Option Text) (h : Held) → IsFit c a → option_fault c again a v h ≡ [] → Rows c h.rows
      → Rows c (option_met c a v h).0.rows
  option_passes a (Some v) h fit e rows = reacted_passes a (v ∷ []) h fit e rows
  option_passes a None h fit e rows = settled_passes h e rows

  long_passes : (o : Option Rule) (name : Text) (v : Option Text) (h : Held) → arg_by_long c name ≡ o
      → long_fault c again o v h ≡ [] → Rows c h.rows → Rows c (long_met c o v h).0.rows
  long_passes None name v h is e rows = rows
  long_passes (Some a) name v h is e rows = go (takes_values a) e
    where
      flag : (w : Option Text) → cond (is_some w) (kind.TooManyValues ∷ []) (react_fault c again a [] h) ≡ []
          → Rows c (flag_met c a w h).0.rows
      flag (Some w) f = rows
      flag None f = reacted_passes a [] h (fit_of _ a is) f rows

      go : (b : Bool)
          → cond b (option_fault c again a v h)
          (cond (is_some v) (kind.TooManyValues ∷ []) (react_fault c again a [] h)) ≡ []
          → Rows c (cond b (option_met c a v h) (flag_met c a v h)).0.rows
      go true f = option_passes a v h (fit_of _ a is) f rows
      go false f = flag v f

  short_passes : (o : Option Rule) (x : ℕ) (rest : Text) (h : Held) (then : Held → Kinds) (on : Held → Held × Outcome)
      → ((g : Held) → then g ≡ [] → Rows c g.rows → Rows c (on g).0.rows) → arg_by_short c x ≡ o
      → short_fault c again o rest h then ≡ [] → Rows c h.rows → Rows c (short_met c o rest h on).0.rows
  short_passes None x rest h then on more is e rows = rows
  short_passes (Some a) x rest h then on more is e rows = go (takes_values a) e
    where
      go : (b : Bool)
          → cond b (option_fault c again a (attached_value rest) h)
          (or_else (react_fault c again a [] h) (then (reacted c a [] h))) ≡ []
          → Rows c (cond b (option_met c a (attached_value rest) h) (on (reacted c a [] h))).0.rows
      go true f = option_passes a (attached_value rest) h (fit_of _ a is) f rows
      go false f =
          let parts = neither (react_fault c again a [] h) _ f in
          more (reacted c a [] h) parts.1 (reacted_passes a [] h (fit_of _ a is) parts.0 rows)

  bundle_step_passes : (k : ℕ)
      → ((left : Text) (t : ℕ) (o : Outcome) (g : Held) → flags_fault c again k left t g ≡ [] → Rows c g.rows
      → Rows c (bundle_met c k left t o g).0.rows)
      → (o : Option ℕ) (flags : Text) (skip : ℕ) (so_far : Outcome) (h : Held)
      → bundle_step_fault c again o flags skip h (flags_fault c again k) ≡ []
      → Rows c h.rows → Rows c (bundle_step c o flags skip so_far h (bundle_met c k)).0.rows
  bundle_step_passes k more None flags skip so_far h e rows = rows
  bundle_step_passes k more (Some x) flags zero so_far h e rows =
      let rest : Text = drop (length (encode_utf8 x)) flags in
      short_passes (arg_by_short c x) x rest h (flags_fault c again k rest 0) (bundle_met c k rest 0 done)
      (more rest 0 done) refl e rows
  bundle_step_passes k more (Some x) flags (suc skip) so_far h e rows =
      more (drop (length (encode_utf8 x)) flags) skip so_far h e rows

  bundle_passes : (k : ℕ) (flags : Text) (skip : ℕ) (so_far : Outcome) (h : Held)
      → flags_fault c again k flags skip h ≡ [] → Rows c h.rows
      → Rows c (bundle_met c k flags skip so_far h).0.rows
  unfolding bundle_met flags_fault
  bundle_passes zero flags skip so_far h e rows = rows
  bundle_passes (suc k) flags skip so_far h e rows =
      bundle_step_passes k (λ left t o g none kept. bundle_passes k left t o g none kept) (slice_get (chars flags) 0)
      flags skip so_far h e rows

  -- a word that is no flag leaves the rows
  plain_rows : (waiting : Waiting) (word : Text) (h : Held) → (plain_word c waiting word h).0.rows ≡ h.rows
  plain_rows idle word h = refl
  plain_rows positional word h = refl
  plain_rows (option id) word h = go (arg_by_id c id)
    where
      go : (o : Option Rule) → (option_word o id word h).0.rows ≡ h.rows
      go None = refl
      go (Some a) = refl

  flag_rows : (waiting : Waiting) (word : Text) (h : Held) (o : Outcome)
      → (after_flag c waiting word h o).0.rows ≡ h.rows
  flag_rows waiting word h done = refl
  flag_rows waiting word h (waits id) = refl
  flag_rows waiting word h plain = plain_rows waiting word h
  flag_rows waiting word h refused = plain_rows waiting word h

  flag_word_passes : (waiting : Waiting) (word : Text) (o : Option (Text × Option Text)) (h : Held)
      → flag_word_fault c again o word h ≡ [] → Rows c h.rows
      → Rows c (long_or_other c waiting word o h).0.rows
  flag_word_passes waiting word (Some p) h e rows =
      let met = long_met c (arg_by_long c p.0) p.1 h in
      subst (Rows c) (sym (flag_rows waiting word met.0 met.1)) (long_passes (arg_by_long c p.0) p.0 p.1 h refl e rows)
  flag_word_passes waiting word None h e rows = go (short_of word) e
    where
      go : (o : Option Text) → option_map_or (λ flags. bundle_fault c again flags h) o [] ≡ []
          → Rows c (short_or_plain c waiting word o h).0.rows
      go None f = subst (Rows c) (sym (plain_rows waiting word h)) rows
      go (Some flags) f =
          let met = bundle c flags h in
          subst (Rows c) (sym (flag_rows waiting word met.0 met.1))
          (bundle_passes (length flags) flags h.skip plain (record h { skip = 0 }) f rows)

  positional_passes : (a : Rule) (word : Text) (h : Held) → positional_fault c again a h ≡ [] → Rows c h.rows
      → Rows c (positional_held c a word h).rows
  positional_passes a word h e rows = go (is_pending a h.pending && takes_several a) e
    where
      go : (b : Bool) → cond b [] (settle_fault c again h) ≡ [] → Rows c (cond b h (settled c h)).rows
      go true f = rows
      go false f = settled_passes h f rows

  to_positional_passes : (o : Option Rule) (word : Text) (w : Walk) (h : Held) (stray : Kinds)
      → option_map_or (λ a. positional_fault c again a h) o stray ≡ []
      → Rows c h.rows → Rows c (to_positional c o word w h).held.rows
  to_positional_passes None word w h stray e rows = rows
  to_positional_passes (Some a) word w h stray e rows = positional_passes a word h e rows

-- ---- the words in turn

module _ (s : Shape) (names : Names) (fits : Each (IsFit s.rules) s.rules) where
  word_met_passes : (is_trailing : Bool) (waiting : Waiting) (position : ℕ) (word : Text) (h : Held)
      → word_fault s names is_trailing waiting word h ≡ []
      → Rows s.rules h.rows → Rows s.rules (word_met s.rules names is_trailing waiting position word h).0.rows
  word_met_passes true waiting position word h e rows = rows
  word_met_passes false waiting position word h e rows = go (subcommand_met names waiting word) e
    where
      dashes : (b : Bool) → cond b [] (flag_word_fault s.rules s.args_override_self (long_of word) word h) ≡ []
          → Rows s.rules (cond b (h, trailing position) (long_or_other s.rules waiting word (long_of word) h)).0.rows
      dashes true f = rows
      dashes false f = flag_word_passes s.rules s.args_override_self fits waiting word (long_of word) h f rows

      go : (o : Option Text) → other_fault s o word h ≡ []
          → Rows s.rules (subcommand_or_other s.rules o waiting position word h).0.rows
      go (Some name) f = rows
      go None f = dashes (bytes_eq word (45 ∷ 45 ∷ [])) f

  step_passes : (word : Text) (w : Walk) (h : Held) (step : Step) → step_fault s w.position h step ≡ []
      → Rows s.rules h.rows
      → Rows s.rules (after_step s.rules word w h step).held.rows
  step_passes word w h (next waiting) e rows = rows
  step_passes word w h (trailing position) e rows = rows
  step_passes word w h (subcommand name) e rows = rows
  step_passes word w h value e rows =
      to_positional_passes s.rules s.args_override_self fits (arg_by_index s.rules w.position) word w h (stray_fault s)
      e rows

  turn_passes : (w : Walk) (word : Text) → turn_fault s names w word ≡ [] → Rows s.rules w.held.rows
      → Rows s.rules (walked s.rules names w word).held.rows
  unfolding walked
  turn_passes w word e rows = go w.stopped e
    where
      met : Held × Step
      met = word_met s.rules names w.is_trailing w.waiting w.position word w.held

      go : (o : Option (Text × List Text))
          → cond (is_some o) []
          (or_else (word_fault s names w.is_trailing w.waiting word w.held)
          (step_fault s w.position (word_met s.rules names w.is_trailing w.waiting w.position word w.held).0
          (word_met s.rules names w.is_trailing w.waiting w.position word w.held).1)) ≡ []
          → Rows s.rules (walked_from s.rules names o w word).held.rows
      go (Some p) f = rows
      go None f =
          let parts = neither (word_fault s names w.is_trailing w.waiting word w.held) _ f in
          step_passes word w _ _ parts.1 (word_met_passes w.is_trailing w.waiting w.position word w.held parts.0 rows)

  pub walk_passes : (words : List Text) (w : Walk) → walk_fault s names w words ≡ [] → Rows s.rules w.held.rows
      → Rows s.rules (fold (walked s.rules names) w words).held.rows
  unfolding walk_fault
  walk_passes [] w e rows = rows
  walk_passes (word ∷ rest) w e rows =
      let parts = neither (turn_fault s names w word) _ e in
      walk_passes rest (walked s.rules names w word) parts.1 (turn_passes w word parts.0 rows)
