pub mod CarriesLaws
