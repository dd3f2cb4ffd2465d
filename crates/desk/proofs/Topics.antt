-- No word is a keyword of two topics.
use Rattle.std.proofs.Common.{rules}
use Rattle.desk.specs.Turns.{OneTopic}

pub one_topic : OneTopic
one_topic = record {
  bands = λ j k e. search rules;
  sharing_bands = λ j k e. search rules;
  sharing_asking = λ j k e. search rules;
  bands_asking = λ j k e. search rules;
  prices = λ j k e. search rules;
  sharing_prices = λ j k e. search rules;
  bands_prices = λ j k e. search rules;
  prices_asking = λ j k e. search rules;
}
