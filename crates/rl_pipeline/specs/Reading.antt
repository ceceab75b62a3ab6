-- What reads lines with a parser, as the parser.
use Rattle.rl_query.specs.declared.stages.Parser.{Parser}
use Rattle.rl_query.specs.declared.stages.Parser.TheVariants.{Json, Logfmt}
use Rattle.rl_pipeline.specs.declared.parsing.Reading.{Reading}
use Rattle.rl_pipeline.specs.declared.parsing.Reading.TheVariants as readings

abbrev pub read_by : Reading → Parser
read_by (readings.Json scratch) = Json
read_by readings.Logfmt = Logfmt
