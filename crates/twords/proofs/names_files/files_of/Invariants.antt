use Rattle.std.proofs.Common.{◌≡◌, Bor, map, take}
use Rattle.clap.specs.Words.{Text}
use Rattle.twords.specs.NamesFiles.{names_file_of}
use Rattle.twords.proofs.names_files.files_of.Given as goal

-- the words so far
abbrev pub invariant-loop-word : goal.invariant-loop-word
invariant-loop-word l =
    l.all.items ≡ map names_file_of (map (λ (w : Bor Text). w.now) (take l.word-index l.words))
