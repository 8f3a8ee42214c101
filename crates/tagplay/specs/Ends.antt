-- How the program ends: what its exit status says of its words, its input and its output.
use Rattle.std.specs.Prelude.{◌≡◌, ◌≢◌, ◌⊎◌, ℕ, List, Option, Ok}
use Rattle.clap.specs.Words.{Text}
use Rattle.tag_runs.specs.Input.{StopsReading}
use Rattle.tag_runs.specs.Runs.{HasOutput, WritesOutput}
use Rattle.tag_runs.specs.declared.fault.RunFault.{RunFault}
use Rattle.tag_runs.specs.declared.fault.RunFault.TheVariants.{Memory, Write}
use Rattle.tag_script.specs.declared.ending.Ending.{Ending}
use Rattle.tagplay.specs.declared.subcommand.Subcommand.{Subcommand}
use Rattle.tagplay.specs.Status.{IsRefused, status_of}
use Rattle.tagplay.specs.Subcommands.{owed_by, Chooses}

-- for the words, what the reader had to give before and after, and what the writer had before and after
module _ (words : List Text) (given left before after : Option (List ℕ)) where
  -- the subcommand that the words choose wrote an output for what was given, with this ending
  pub record Runs (ending : Ending) : Type 0 where
    pub subcommand : Subcommand
    pub chosen : Chooses words subcommand
    pub written : WritesOutput (owed_by subcommand) given before after ending

  -- the words were refused with this status, and nothing was read or written
  pub record Refuses (status : ℕ) : Type 0 where
    pub refused : IsRefused words status
    pub unread : left ≡ given
    pub unwritten : after ≡ before

  -- a run failed: only a fault of the writer leaves anything written, and only memory may be short before the words
  -- have chosen a subcommand
  pub record Fails : Type 0 where
    pub fault : RunFault
    pub begun : fault ≢ Memory → (subcommand : Subcommand) × Chooses words subcommand
    pub stopped : StopsReading fault given left
    pub unwritten : fault ≢ Write → after ≡ before
    pub answered : fault ≡ Write → (subcommand : Subcommand) × Chooses words subcommand × HasOutput (owed_by subcommand) given

  -- the status is that of a run's ending, that of refused words, or 3 for a run that failed
  abbrev pub EndsWith : ℕ → Type 0
  EndsWith status = ((ending : Ending) × Runs ending × (status ≡ status_of (Ok ending)))
      ⊎ (Refuses status ⊎ (Fails × (status ≡ 3)))
