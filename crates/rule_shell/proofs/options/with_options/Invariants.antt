-- With the options that are left it is the command with all of them.
use Rattle.std.proofs.Common.{◌≡◌, map, drop}
use Rattle.clap.specs.Words.{app_of}
use Rattle.rule_shell.specs.Options.{with_options}
use Rattle.rule_shell.proofs.options.with_options.Given as goal

abbrev pub invariant-loop-name : goal.invariant-loop-name
invariant-loop-name l = with_options (app_of l.command) (map (λ name. name.now) (drop l.name-index l.names)) ≡ with_options (app_of l.fn.command) (map (λ name. name.now) l.names)
