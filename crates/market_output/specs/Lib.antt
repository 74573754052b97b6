pub mod MarketOutput
