-- The command line, as the crate clap reads it.
use Rattle.std.specs.Prelude.{◌≡◌, ◌≤◌, ◌<◌, ◌-◌, ◌*◌, ◌^◌, ◌⊎◌, ◌++◌, ℕ, true, false, Bool, List, [], ◌∷◌, Option, Some, None, IfSome, is_some, not, unwrap_or, codes}
use Rattle.std.specs.Option.{option_map}
use Rattle.std.specs.String.{string_bytes}
use Rattle.std.specs.Str.Parse.{IsNumeral, digits_value, without_leading_plus}
use Rattle.clap.specs.Words.{App, Rule, Row, Text, new_app, new_rule, with_rule, with_subcommand, first_of, one_of, subcommand_of}
use Rattle.clap.specs.Simple.{on_top}
use Rattle.clap.specs.declared.builder.action.ArgAction.TheVariants.{SetTrue}
use Rattle.clap.specs.declared.builder.value_parser.ValueParser.TheVariants.{Unsigned}
use Rattle.rs_message.specs.declared.entry.TheConstants.{MAX_PLACES}
use Rattle.rs_store.specs.declared.limit.TheConstants.{MAX_TOPICS}
use Rattle.rs_program.specs.declared.words.commands.TheConstants.{MAX_CLIENTS, MAX_CONNECTIONS, MAX_IDLE}
use Rattle.rs_tcp_server.specs.declared.keeping.SyncPolicy.{SyncPolicy}
use Rattle.rs_tcp_server.specs.declared.keeping.SyncPolicy.TheVariants.{Always, Second, Never}
use Rattle.rs_program.specs.declared.words.Keep.{Keep}
use Rattle.rs_program.specs.declared.words.Run.{Run}
use Rattle.rs_program.specs.declared.words.Run.TheVariants.{Pipe, Listen}

-- `--hex`
abbrev pub hex_option : Rule
hex_option = record (new_rule (codes "hex")) { long = Some (codes "hex"); action = Some SetTrue }

-- `--NAME NUMBER`, a number in these bounds
abbrev pub number_option : Text → ℕ → ℕ → Rule
number_option name least most = record (new_rule name) { long = Some name; value_names = 1; parser = Some (Unsigned least most) }

-- `--at SECONDS`, which has to be there
abbrev pub at_option : Rule
at_option = record (number_option (codes "at") 0 (2 ^ 64 - 1)) { required = true }

-- `--address ADDRESS`, which has to be there
abbrev pub address_option : Rule
address_option = record (new_rule (codes "address")) { long = Some (codes "address"); value_names = 1; required = true }

-- `--places NUMBER`
abbrev pub places_option : Rule
places_option = record (number_option (codes "places") 1 MAX_PLACES) { defaults = codes "4" ∷ [] }

-- `--clients NUMBER`
abbrev pub clients_option : Rule
clients_option = number_option (codes "clients") 1 MAX_CLIENTS

-- `--topics NUMBER`
abbrev pub topics_option : Rule
topics_option = record (number_option (codes "topics") 1 MAX_TOPICS) { defaults = codes "10000" ∷ [] }

-- `--memory SIZE`
abbrev pub memory_option : Rule
memory_option = record (new_rule (codes "memory")) { long = Some (codes "memory"); value_names = 1 }

-- `--connections NUMBER`
abbrev pub connections_option : Rule
connections_option = number_option (codes "connections") 1 MAX_CONNECTIONS

-- `--endless`
abbrev pub endless_option : Rule
endless_option = record (new_rule (codes "endless")) { long = Some (codes "endless"); action = Some SetTrue }

-- `--idle NUMBER`
abbrev pub idle_option : Rule
idle_option = number_option (codes "idle") 1 MAX_IDLE

-- `--log`
abbrev pub log_option : Rule
log_option = record (new_rule (codes "log")) { long = Some (codes "log"); action = Some SetTrue }

-- `--metrics ADDRESS`
abbrev pub metrics_option : Rule
metrics_option = record (new_rule (codes "metrics")) { long = Some (codes "metrics"); value_names = 1 }

-- `--keep FOLDER`
abbrev pub keep_option : Rule
keep_option = record (new_rule (codes "keep")) { long = Some (codes "keep"); value_names = 1 }

-- `--sync WHEN`
abbrev pub sync_option : Rule
sync_option = record (new_rule (codes "sync")) { long = Some (codes "sync"); value_names = 1 }

abbrev pub pipe_words : App
pipe_words = with_rule (with_rule (new_app (codes "pipe")) hex_option) at_option

abbrev pub listen_words : App
listen_words = with_rule (with_rule (with_rule (with_rule (with_rule (with_rule (with_rule (with_rule (with_rule (with_rule (with_rule (with_rule
    (new_app (codes "listen")) address_option) places_option) clients_option) topics_option) memory_option) connections_option) endless_option)
    idle_option) log_option) metrics_option) keep_option) sync_option

-- the words after the program's name: one of its commands, with its options
abbrev pub rstored_words : App
rstored_words = with_subcommand
    (with_subcommand
    (on_top (λ s. record s { has_version = true; no_binary_name = true; subcommand_required = true; disable_help_subcommand = true })
    (new_app (codes "rstored")))
    pipe_words.top)
    listen_words.top

-- The option's value is this number, in decimal, before which a plus may stand. It is in these bounds.
pub record IsNumberOf (rows : List Row) (option : Text) (least most number : ℕ) : Type 0 where
  pub text : Text
  pub given : one_of option rows ≡ Some text
  pub digits : IsNumeral 10 (without_leading_plus text)
  pub value : digits_value 10 (without_leading_plus text) ≡ number
  pub above : least ≤ number
  pub below : number ≤ most

-- The option's value is this number, or it has no value and there is no number.
abbrev pub IsNumberGiven : List Row → Text → ℕ → ℕ → Option ℕ → Type 0
IsNumberGiven rows option least most (Some number) = IsNumberOf rows option least most number
IsNumberGiven rows option least most None = first_of option rows ≡ None

-- What may stand behind the digits of a size, and how many bytes it counts.
abbrev pub IsUnit : Text → ℕ → Type 0
IsUnit letters each = ((letters ≡ []) × (each ≡ 1)) ⊎ ((letters ≡ codes "K") × (each ≡ 1_024))
    ⊎ ((letters ≡ codes "M") × (each ≡ 1_024 ^ 2)) ⊎ ((letters ≡ codes "G") × (each ≡ 1_024 ^ 3))

-- The text is a number in decimal, with a letter behind it or without, and means this many bytes: at least 1, and at most what a u64 holds.
pub record IsSize (text : Text) (bytes : ℕ) : Type 0 where
  pub digits : Text
  pub letters : Text
  pub each : ℕ
  pub parts : text ≡ digits ++ letters
  pub decimal : IsNumeral 10 digits
  pub unit : IsUnit letters each
  pub value : digits_value 10 digits * each ≡ bytes
  pub above : 1 ≤ bytes
  pub below : bytes < 2 ^ 64

-- The option's value is a size of this many bytes.
abbrev pub IsSizeOf : List Row → Text → ℕ → Type 0
IsSizeOf rows option bytes = (text : Text) × (first_of option rows ≡ Some text) × IsSize text bytes

-- The option's value is a size of this many bytes, or it has no value and there is no number.
abbrev pub IsSizeGiven : List Row → Text → Option ℕ → Type 0
IsSizeGiven rows option (Some bytes) = IsSizeOf rows option bytes
IsSizeGiven rows option None = first_of option rows ≡ None

-- The flag is set if the option's value says so, and not set if it says otherwise or there is none.
pub record IsFlagOf (rows : List Row) (option : Text) (flag : Bool) : Type 0 where
  pub set : one_of option rows ≡ Some (codes "true") → flag ≡ true
  pub unset : one_of option rows ≡ Some (codes "false") → flag ≡ false
  pub none : one_of option rows ≡ None → flag ≡ false

-- There are as many clients as `--clients` says, or if it was not given as there are places.
abbrev pub AreClientsOf : List Row → ℕ → ℕ → Type 0
AreClientsOf rows places clients = (given : Option ℕ) × IsNumberGiven rows (codes "clients") 1 MAX_CLIENTS given
    × (clients ≡ unwrap_or given places)

-- The program ends after this many connections, if `--connections` alone was given, or never, if `--endless` alone was.
abbrev pub IsEndOf : List Row → Option ℕ → Type 0
IsEndOf rows connections = IsNumberGiven rows (codes "connections") 1 MAX_CONNECTIONS connections
    × IsFlagOf rows (codes "endless") (not (is_some connections))

-- the name of a policy
abbrev pub policy_text : SyncPolicy → Text
policy_text Always = codes "always"
policy_text Second = codes "second"
policy_text Never = codes "never"

-- The messages are kept in the folder that `--keep` names, by the policy that `--sync` names, or if it was not given by `always`. Nothing
-- keeps them, if neither was given.
abbrev pub IsKeepOf : List Row → Option Keep → Type 0
IsKeepOf rows (Some keep) = (first_of (codes "keep") rows ≡ Some (string_bytes keep.folder))
    × (unwrap_or (first_of (codes "sync") rows) (codes "always") ≡ policy_text keep.sync)
IsKeepOf rows None = (first_of (codes "keep") rows ≡ None) × (first_of (codes "sync") rows ≡ None)

-- what the values of a command's options ask for
abbrev pub IsRunOf : Text → List Row → Run → Type 0
IsRunOf name rows (Pipe hex at) = (name ≡ codes "pipe") × IsNumberOf rows (codes "at") 0 (2 ^ 64 - 1) at × IsFlagOf rows (codes "hex") hex
IsRunOf name rows (Listen address places clients topics memory connections idle log metrics keep) = (name ≡ codes "listen")
    × (first_of (codes "address") rows ≡ Some (string_bytes address))
    × IsNumberOf rows (codes "places") 1 MAX_PLACES places × AreClientsOf rows places clients
    × IsNumberOf rows (codes "topics") 1 MAX_TOPICS topics
    × IsSizeGiven rows (codes "memory") memory
    × IsEndOf rows connections
    × IsNumberGiven rows (codes "idle") 1 MAX_IDLE idle × IsFlagOf rows (codes "log") log
    × (first_of (codes "metrics") rows ≡ option_map string_bytes metrics) × IsKeepOf rows keep

-- each number is in its range
abbrev pub IsInRange : Run → Type 0
IsInRange (Pipe hex at) = at ≤ 2 ^ 64 - 1
IsInRange (Listen address places clients topics memory connections idle log metrics keep) = (1 ≤ places) × (places ≤ MAX_PLACES) × (places ≤ clients)
    × (clients ≤ MAX_CLIENTS) × (1 ≤ topics) × (topics ≤ MAX_TOPICS) × IfSome memory (λ bytes. (1 ≤ bytes) × (bytes < 2 ^ 64))
    × IfSome connections (λ count. (1 ≤ count) × (count ≤ MAX_CONNECTIONS)) × IfSome idle (λ seconds. (1 ≤ seconds) × (seconds ≤ MAX_IDLE))

-- the words name a command, and its options ask for this
abbrev pub AskFor : List Text → Run → Type 0
AskFor words run = (name : Text) × (rows : List Row) × (subcommand_of rstored_words words ≡ Some (name, rows)) × IsRunOf name rows run
