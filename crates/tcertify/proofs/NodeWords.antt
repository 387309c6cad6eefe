-- Calls on the words of a node are calls on the node.
use Rattle.std.proofs.Common.{◌≡◌, ℕ, sym, ap, ◌∙◌, subst, List, Bool, Result, inl}
use Rattle.std.specs.Prelude.{Contains, map}
use Rattle.tprocesses.specs.Parts.{Reason, Part}
use Rattle.tprocesses.specs.Touching.{Site}
use Rattle.tcertify.specs.declared.channel.Channel.{Channel}
use Rattle.tcertify.specs.declared.channel.Links.{Links}
use Rattle.tcertify.specs.declared.lead.Lead.{Lead}
use Rattle.tcertify.specs.declared.life.Life.{Life}
use Rattle.tcertify.specs.declared.node.Node.{Node}
use Rattle.tcertify.specs.declared.process.Process.{Process}
use Rattle.tcertify.specs.Boards.{Board, board_at, has_run_at}
use Rattle.tcertify.specs.Channels.{half_among, link_among, unfinished_among}
use Rattle.tcertify.specs.Lives.{lives_at, successors_at}
use Rattle.tcertify.specs.Nodes.{AreBesides, RunsAt, board_of}
use Rattle.tcertify.specs.Processes.{name_of, ports_among, stand_among}
use Rattle.tcertify.specs.Words.{Runs, site_of, standing}
use Rattle.tcertify.proofs.Growing.{Stays, process_key, channel_key, life_key, grows, numbers_before}
use Rattle.tcertify.proofs.Keeping.{kept_same}

-- a board by its parts
abbrev pub board_from : ℕ → List Process → List Channel → Links → List Life → (error halting changed high low : Bool)
    → ℕ
    → Board
board_from k processes channels links lives error halting changed high low population =
    record {
      node = k;
      stand = stand_among k processes;
      ports = ports_among k processes;
      half = half_among (map (name_of k) processes) channels;
      link = link_among (map (name_of k) processes) links;
      unfinished = unfinished_among links;
      error = error;
      halt_on_error = halting;
      is_flag_changed = changed;
      life = lives_at lives;
      successions = successors_at lives;
      population = population;
      has_run = has_run_at high low;
    }

-- a node with other words, at the same places
module _ (n b : Node) (same : AreBesides n b) (site : site_of b.words ≡ site_of n.words)
    (first : b.words.first_place ≡ n.words.first_place) where
  number : b.words.number ≡ n.words.number
  number = ap (λ (s : Site). s.number) site

  -- the board is the same
  pub board_stays : board_of b ≡ board_of n
  board_stays =
      ap (λ (k : ℕ). board_from k b.processes.items.items b.channels.items.items b.links b.lives.items.items b.error
      b.halt_on_error b.is_flag_changed b.has_run_high b.has_run_low b.population) number
      ∙ ap (λ (ps : List Process). board_from n.words.number ps b.channels.items.items b.links b.lives.items.items
      b.error b.halt_on_error b.is_flag_changed b.has_run_high b.has_run_low b.population) same.processes
      ∙ ap (λ (cs : List Channel). board_from n.words.number n.processes.items.items cs b.links b.lives.items.items
      b.error b.halt_on_error b.is_flag_changed b.has_run_high b.has_run_low b.population) same.channels
      ∙ ap (λ (l : Links). board_from n.words.number n.processes.items.items n.channels.items.items l
      b.lives.items.items b.error b.halt_on_error b.is_flag_changed b.has_run_high b.has_run_low b.population)
      same.links
      ∙ ap (λ (ls : List Life). board_from n.words.number n.processes.items.items n.channels.items.items n.links ls
      b.error b.halt_on_error b.is_flag_changed b.has_run_high b.has_run_low b.population) same.lives
      ∙ ap (λ (t : Bool). record (board_of n) {
        error = t;
        halt_on_error = b.halt_on_error;
        is_flag_changed = b.is_flag_changed;
        has_run = has_run_at b.has_run_high b.has_run_low;
        population = b.population;
      }) same.error
      ∙ ap (λ (t : Bool). record (board_of n) {
        halt_on_error = t;
        is_flag_changed = b.is_flag_changed;
        has_run = has_run_at b.has_run_high b.has_run_low;
        population = b.population;
      }) same.halt_on_error
      ∙ ap (λ (t : Bool). record (board_of n) {
        is_flag_changed = t;
        has_run = has_run_at b.has_run_high b.has_run_low;
        population = b.population;
      }) same.flag_changed
      ∙ ap (λ (t : Bool). record (board_of n) { has_run = has_run_at t b.has_run_low; population = b.population })
      same.has_run_high
      ∙ ap (λ (t : Bool). record (board_of n) { has_run = has_run_at n.has_run_high t; population = b.population })
      same.has_run_low
      ∙ ap (λ (k : ℕ). record (board_of n) { population = k }) same.population

  -- and all places stay
  pub words_stay : Stays n b
  words_stay =
      record {
        site = site;
        first = first;
        fixed = same.fixed;
        processes = kept_same process_key n.processes.items.items b.processes.items.items
            same.processes;
        channels = kept_same channel_key n.channels.items.items b.channels.items.items
            same.channels;
        lives = kept_same life_key n.lives.items.items b.lives.items.items
            same.lives;
      }

-- a call on the words is one on the node
pub on_words : {A : Type 0} (n b : Node) (part : Part A) (r : Result A Reason) → AreBesides n b
    → site_of b.words ≡ site_of n.words → Runs part n.words r b.words → RunsAt part n r b
on_words n b part r same site h =
    record {
      runs = λ rest. h.runs (board_at (board_of n) rest)
          ∙ ap (λ (x : Board). (r, standing b.words (board_at x rest)))
          (sym (board_stays n b same site h.first));
      grows = grows n b (words_stay n b same site h.first);
      keeps = h.keeps;
      noted = λ numbering k rest. h.noted numbering
          (numbers_before n b (words_stay n b same site h.first) numbering k).words (board_at (board_of n) rest);
      led = λ l there. inl (subst (λ (ls : List Lead). Contains ls l) same.leads there);
    }
