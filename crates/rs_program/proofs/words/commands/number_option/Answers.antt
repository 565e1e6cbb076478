use Rattle.std.proofs.Common.{rules, ◌≡◌, ◌∙◌, ap, Option, Some}
use Rattle.clap.specs.Words.{rule_of}
use Rattle.clap.specs.declared.builder.value_parser.ValueParser.{ValueParser}
use Rattle.clap.specs.declared.builder.value_parser.ValueParser.TheVariants.{Unsigned}
use Rattle.rs_program.specs.CommandLine.{number_option}
use Rattle.rs_program.proofs.words.commands.number_option.Goals as goal

pub returns-clause-rule : goal.returns-clause-rule
returns-clause-rule c =
    let name = c.args.name.now in
    let given = c.value_parser.ensures.given in
    let parser_is : c.value_parser.result.value_parser ≡ Some (Unsigned c.args.least c.args.most) = given.1 ∙ ap Some (given.2 ∙ c.unsigned.ensures) in
    let but_parser : rule_of c.value_parser.result ≡ record (number_option name c.args.least c.args.most) { parser = c.value_parser.result.value_parser } = search rules in
    but_parser ∙ ap (λ (p : Option ValueParser). record (number_option name c.args.least c.args.most) { parser = p }) parser_is
