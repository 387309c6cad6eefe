-- Nodes that grow.
use Rattle.std.proofs.Common.{◌≡◌, ℕ, sym, ap, ◌∙◌, ◌+◌, Some}
use Rattle.std.specs.Prelude.{slice_get}
use Rattle.tproc.specs.declared.channels.Side.TheVariants.{Input, Output}
use Rattle.tplan.specs.Wires.{end_at}
use Rattle.tprocesses.specs.Places.{Place, Name, WordAt, Sending, Standing, Ports, Half, LinkHalf, Error}
use Rattle.tprocesses.specs.Places.{Unfinished, HaltOnError, Life, Successions, Population, HasRun, FlagChanged}
use Rattle.tprocesses.specs.Touching.{Site}
use Rattle.tcertify.specs.declared.channel.Channel.{Channel}
use Rattle.tcertify.specs.declared.life.Life as life
use Rattle.tcertify.specs.declared.node.Node.{Node}
use Rattle.tcertify.specs.declared.process.Process.{Process}
use Rattle.tcertify.specs.Nodes.{Grows, NumbersNode, node_site}
use Rattle.tcertify.specs.Notes.{Numbering}
use Rattle.tcertify.specs.Processes.{name_of}
use Rattle.tcertify.proofs.Keeping.{IsKept, kept_on, kept_same, map_kept}

-- what processes, channels and workspaces are known by, with their places
abbrev pub process_key : Process → Name × ℕ
process_key p = (name_of 0 p, p.place)

abbrev pub channel_key : Channel → ℕ × ℕ × ℕ
channel_key c = (c.address, c.input.place, c.output.place)

abbrev pub life_key : life.Life → ℕ × ℕ × ℕ
life_key l = (l.workspace, l.count_place, l.successors_place)

-- all places of a node stay, and more may come
pub record Stays (a b : Node) : Type 0 where
  pub site : node_site b ≡ node_site a
  pub first : b.words.first_place ≡ a.words.first_place
  pub fixed : b.fixed_place ≡ a.fixed_place
  pub processes : IsKept process_key a.processes.items.items b.processes.items.items
  pub channels : IsKept channel_key a.channels.items.items b.channels.items.items
  pub lives : IsKept life_key a.lives.items.items b.lives.items.items

module _ (a b : Node) (h : Stays a b) where
  pub number_is : b.words.number ≡ a.words.number
  number_is = ap (λ (s : Site). s.number) h.site

  name_agrees : (p q : Process) → process_key q ≡ process_key p → name_of b.words.number q ≡ name_of a.words.number p
  name_agrees p q e =
      ap (λ (n : ℕ). name_of n q) number_is
      ∙ ap (λ (k : Name × ℕ). record k.0 { node = a.words.number }) e

  module _ (numbering : Numbering) (n : NumbersNode numbering b) where
    stand : (k : ℕ) (p : Process) → slice_get a.processes.items.items k ≡ Some p
        → numbering (Standing (name_of a.words.number p)) ≡ p.place
    stand k p at =
        let (q, there, same) = h.processes.items k p at in
        ap (λ (x : Name). numbering (Standing x)) (sym (name_agrees p q same)) ∙ n.stand k q there
        ∙ ap (λ (k : Name × ℕ). k.1) same

    ports : (k : ℕ) (p : Process) → slice_get a.processes.items.items k ≡ Some p
        → numbering (Ports (name_of a.words.number p)) ≡ p.place
    ports k p at =
        let (q, there, same) = h.processes.items k p at in
        ap (λ (x : Name). numbering (Ports x)) (sym (name_agrees p q same)) ∙ n.ports k q there
        ∙ ap (λ (k : Name × ℕ). k.1) same

    input : (k : ℕ) (c : Channel) → slice_get a.channels.items.items k ≡ Some c
        → numbering (Half a.words.number c.address Input) ≡ c.input.place
    input k c at =
        let (d, there, same) = h.channels.items k c at in
        ap (λ (m : ℕ). numbering (Half m c.address Input)) (sym number_is)
        ∙ ap (λ (k : ℕ × ℕ × ℕ). numbering (Half b.words.number k.0 Input)) (sym same) ∙ n.input k d there
        ∙ ap (λ (k : ℕ × ℕ × ℕ). k.1) same

    output : (k : ℕ) (c : Channel) → slice_get a.channels.items.items k ≡ Some c
        → numbering (Half a.words.number c.address Output) ≡ c.output.place
    output k c at =
        let (d, there, same) = h.channels.items k c at in
        ap (λ (m : ℕ). numbering (Half m c.address Output)) (sym number_is)
        ∙ ap (λ (k : ℕ × ℕ × ℕ). numbering (Half b.words.number k.0 Output)) (sym same) ∙ n.output k d there
        ∙ ap (λ (k : ℕ × ℕ × ℕ). k.2) same

    counts : (k : ℕ) (l : life.Life) → slice_get a.lives.items.items k ≡ Some l
        → numbering (Life a.words.number l.workspace) ≡ l.count_place
    counts k l at =
        let (d, there, same) = h.lives.items k l at in
        ap (λ (m : ℕ). numbering (Life m l.workspace)) (sym number_is)
        ∙ ap (λ (k : ℕ × ℕ × ℕ). numbering (Life b.words.number k.0)) (sym same) ∙ n.life k d there
        ∙ ap (λ (k : ℕ × ℕ × ℕ). k.1) same

    successors : (k : ℕ) (l : life.Life) → slice_get a.lives.items.items k ≡ Some l
        → numbering (Successions a.words.number l.workspace) ≡ l.successors_place
    successors k l at =
        let (d, there, same) = h.lives.items k l at in
        ap (λ (m : ℕ). numbering (Successions m l.workspace)) (sym number_is)
        ∙ ap (λ (k : ℕ × ℕ × ℕ). numbering (Successions b.words.number k.0)) (sym same) ∙ n.successions k d there
        ∙ ap (λ (k : ℕ × ℕ × ℕ). k.2) same

    -- a place that each node has
    fixed_at : (p : ℕ → Place) (k : ℕ → ℕ) → numbering (p b.words.number) ≡ k b.fixed_place
        → numbering (p a.words.number) ≡ k a.fixed_place
    fixed_at p k e = ap (λ (m : ℕ). numbering (p m)) (sym number_is) ∙ e ∙ ap k h.fixed

    word_at : (p : ℕ → Place) (k : ℕ → ℕ) → numbering (p b.words.number) ≡ k b.words.first_place
        → numbering (p a.words.number) ≡ k a.words.first_place
    word_at p k e = ap (λ (m : ℕ). numbering (p m)) (sym number_is) ∙ e ∙ ap k h.first

    pub numbers_before : NumbersNode numbering a
    numbers_before =
        record {
          words = record {
            word = λ k. word_at (λ m. WordAt m k) (λ f. f + k) (n.words.word k);
            sending = λ k. word_at (λ m. Sending m k) (λ f. f + k) (n.words.sending k);
          };
          stand = stand;
          ports = ports;
          input = input;
          output = output;
          life = counts;
          successions = successors;
          error = fixed_at Error (λ f. f) n.error;
          halt_on_error = fixed_at HaltOnError (λ f. f + 1) n.halt_on_error;
          flag_changed = fixed_at FlagChanged (λ f. f + 2) n.flag_changed;
          population = fixed_at Population (λ f. f + 3) n.population;
          has_run = λ p low. fixed_at (λ m. HasRun m p) (λ f. f + 4 + p) (n.has_run p low);
          link_input = λ k low. fixed_at (λ m. LinkHalf (end_at m k) Input) (λ f. f + 6 + k) (n.link_input k low);
          link_output = λ k low. fixed_at (λ m. LinkHalf (end_at m k) Output) (λ f. f + 10 + k) (n.link_output k low);
          unfinished = λ k low. fixed_at (λ m. Unfinished (end_at m k)) (λ f. f + 14 + k) (n.unfinished k low);
        }

  -- so it has grown
  pub grows : Grows a b
  grows =
      record {
        site = h.site;
        numbers = numbers_before;
        processes = h.processes.count;
        channels = h.channels.count;
        lives = h.lives.count;
        names = map_kept process_key (name_of a.words.number) (name_of b.words.number) name_agrees
            a.processes.items.items b.processes.items.items h.processes;
        addresses = map_kept channel_key (λ c. c.address) (λ c. c.address)
            (λ c d e. ap (λ (k : ℕ × ℕ × ℕ). k.0) e) a.channels.items.items b.channels.items.items h.channels;
        workspaces = map_kept life_key (λ l. l.workspace) (λ l. l.workspace)
            (λ c d e. ap (λ (k : ℕ × ℕ × ℕ). k.0) e) a.lives.items.items b.lives.items.items h.lives;
      }

-- a node whose processes, channels and workspaces are the same keeps all places
pub lists_stay : (a b : Node) → node_site b ≡ node_site a → b.words.first_place ≡ a.words.first_place
    → b.fixed_place ≡ a.fixed_place → b.processes.items.items ≡ a.processes.items.items
    → b.channels.items.items ≡ a.channels.items.items → b.lives.items.items ≡ a.lives.items.items → Stays a b
lists_stay a b site first fixed processes channels lives =
    record {
      site = site;
      first = first;
      fixed = fixed;
      processes = kept_same process_key a.processes.items.items b.processes.items.items processes;
      channels = kept_same channel_key a.channels.items.items b.channels.items.items channels;
      lives = kept_same life_key a.lives.items.items b.lives.items.items lives;
    }

-- places that stay twice stay
pub stays_on : (a b c : Node) → Stays a b → Stays b c → Stays a c
stays_on a b c g h =
    record {
      site = h.site ∙ g.site;
      first = h.first ∙ g.first;
      fixed = h.fixed ∙ g.fixed;
      processes = kept_on process_key a.processes.items.items b.processes.items.items c.processes.items.items
          g.processes h.processes;
      channels = kept_on channel_key a.channels.items.items b.channels.items.items c.channels.items.items g.channels
          h.channels;
      lives = kept_on life_key a.lives.items.items b.lives.items.items c.lives.items.items g.lives h.lives;
    }
