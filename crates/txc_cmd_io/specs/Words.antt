-- The words of the program, as clap is configured with them.
use Rattle.std.specs.Prelude.{◌≡◌, true, false, List, [], ◌∷◌, codes, Option, Some, None, option_and_then, option_map}
use Rattle.std.specs.Prelude.{if◌then◌else◌, nat_eq, Result, Ok, Err}
use Rattle.std.specs.Cmp.Lexicographic.{pointwise}
use Rattle.clap.specs.Words.{App, Shape, Text, new_app, shape_of, with_subcommand, Kinds, fault_of, subcommand_of}
use Rattle.clap.specs.Words.{kind_of, subcommand_name_of}
use Rattle.clap.specs.declared.error.Error.{Error}
use Rattle.clap.specs.declared.error.kind.ErrorKind.{ErrorKind}
use Rattle.clap.specs.declared.error.kind.ErrorKind.TheVariants.{OutOfMemory}
use Rattle.clap.specs.declared.parser.matches.ArgMatches.{ArgMatches}
use Rattle.clap.specs.declared.builder.command.Command.{Command}
use Rattle.clap.specs.declared.builder.command.Command.TheViews.{out-Command}
use Rattle.txc_cmd_io.specs.declared.words.Action.{Action}
use Rattle.txc_cmd_io.specs.declared.words.Action.TheVariants.{Check, Replay, Explore, Run}
use Rattle.txc_cmd_io.specs.declared.words.ArgsFault.{ArgsFault}
use Rattle.txc_cmd_io.specs.declared.words.ArgsFault.TheVariants.{Usage, NoMemory}

-- a subcommand that takes no words (clap)
abbrev pub leaf : Text → Shape
leaf name = record (new_app name).top { disable_help_flag = true }

-- the command is a subcommand of this name that takes no words, and passes none to subcommands (this project, by clap)
abbrev pub IsLeaf : Command → Text → Type 0
IsLeaf command name = (shape_of command ≡ leaf name) × ((out-Command command).has_globals ≡ false)

-- the command line before its subcommands are added: a subcommand is required, and clap adds no words of its own (clap)
abbrev pub no_subcommands : App
no_subcommands = record {
  top = record (new_app (codes "chanrun")).top {
    disable_help_flag = true;
    disable_version_flag = true;
    disable_help_subcommand = true;
    subcommand_required = true;
  };
  subs = [];
}

-- the program's command line
abbrev pub chanrun : App
chanrun = with_subcommand (with_subcommand (with_subcommand (with_subcommand no_subcommands (leaf (codes "check")))
    (leaf (codes "replay"))) (leaf (codes "explore"))) (leaf (codes "run"))

-- the action of the subcommand with this name
abbrev pub action_named : Text → Option Action
action_named name = if pointwise nat_eq name (codes "check") then Some Check
    else if pointwise nat_eq name (codes "replay") then Some Replay
    else if pointwise nat_eq name (codes "explore") then Some Explore
    else if pointwise nat_eq name (codes "run") then Some Run else None

-- the given option, or none if there is a fault
abbrev pub unless_fault : {X : Type 0} → Kinds → Option X → Option X
unless_fault [] o = o
unless_fault (kind ∷ kinds) o = None

-- the action that words request; none if clap rejects the words (clap)
unfoldable pub action_in : List Text → Option Action
action_in words = unless_fault (fault_of chanrun words)
    (option_and_then action_named (option_map (λ found. found.0) (subcommand_of chanrun words)))

-- the fault for an error of clap of this kind
abbrev pub fault_by : ErrorKind → ArgsFault
fault_by OutOfMemory = NoMemory
fault_by kind = Usage

-- the request for the action that was named, if one was
abbrev pub requested : Option Action → Result Action ArgsFault
requested None = Err Usage
requested (Some action) = Ok action

-- what the words request, by what clap found in them
abbrev pub request_in : Result ArgMatches Error → Result Action ArgsFault
request_in (Ok found) = requested (option_and_then action_named (subcommand_name_of found))
request_in (Err error) = Err (fault_by (kind_of error))
